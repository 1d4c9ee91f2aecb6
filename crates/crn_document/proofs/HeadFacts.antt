-- What the form of a head says of its numbers, of the records below it and of the answer.
use Rattle.crn_document.proofs.Prelude.{◌≡◌, ◌≤◌, ◌∙◌, ℕ, zero, suc, List, [], ◌∷◌, length, map, refl, sym, subst, ap, inl, inr, arith, ℤ, pos, AllZip, Net, IsNetwork, MAX_COMPLEXES, HeadMayBe, Earlier, Question, number, HeadKind, zip_long, head_tests, row_tests, linkage, linkage_count, Record, Form, Fits, below, heads, kind_at, IsOneOf, lists, ranks_of, sizes_of, shapes_of, proof_of, verdict_by, proof_by, part_proofs, asked, IsIn, AreSmall, AreSmallAt, verdict_of_head, FitAnswer, proof_of_head, HeadHolds, forms_below, many_after, parts_after, row_form, rows_below, known_of, head_forms, tagged, class_count, Q1, FitsHead, fields, Datum, head_back, head_record, head_typed, kept, FitProof, parts_by}
use Rattle.crn_document.proofs.Fields.{PartsWithin}
use Rattle.crn_document.proofs.Ranks.{AreRanks}
use Rattle.crn_document.proofs.HeadsTyped.{AreFew, HeadOf, HeadFits, Held, head_by, numbers, place_for, due, forms_by, place_tells, light_by, few_by, ranks_by, may_by, below_by, shown_by, fit_by, row_parts_by}

pub record HeadFacts (net : Net) (earlier : Earlier) (n : ℕ) (h : Record) (t : List ℤ) : Type 1 where
  pub small : AreSmall t
  pub short : length t ≤ 800
  pub few : class_count n t ≤ MAX_COMPLEXES
  pub ranks : length (linkage earlier) ≤ MAX_COMPLEXES → AreRanks (parts_after net earlier n t)
  pub may : HeadMayBe net earlier (asked n) (verdict_of_head (asked n) t [])
  pub below_is : below (asked n) (shapes_of (known_of net earlier)) h ≡ forms_below net earlier n t
  pub shown : (rs : List Record) → proof_of (asked n) (shapes_of (known_of net earlier)) h rs ≡ proof_of_head (asked n) (parts_after net earlier n t) t rs
  pub fit : (rs : List Record) → HeadHolds net earlier n t → AllZip Fits (forms_below net earlier n t) rs → FitAnswer (asked n) t (parts_after net earlier n t) (lists rs)
  pub row_parts : (rs : List Record) → HeadHolds net earlier n t → AllZip Fits (forms_below net earlier n t) rs
      → PartsWithin (suc (length rs)) (row_tests net earlier (asked n) (verdict_of_head (asked n) t rs) (proof_of_head (asked n) (parts_after net earlier n t) t rs))

abbrev pub FactsAt : Net → Earlier → ℕ → Record → Type 1
FactsAt net earlier n h = HeadFacts net earlier n h (tagged net earlier n h)

-- the same by the kind of the head, whose form has this place
record ByKind (net : Net) (earlier : Earlier) (q : Question) (place : ℕ) (kind : HeadKind) (h : Record) : Type 1 where
  ranks : length (linkage earlier) ≤ MAX_COMPLEXES → AreRanks (parts_by net (linkage earlier) kind h.numbers)
  may : HeadMayBe net earlier q (verdict_by kind h.numbers [])
  below_is : below q (shapes_of (known_of net earlier)) h ≡ forms_by net earlier q place kind h.numbers
  shown : (rs : List Record) → proof_by kind q (ranks_of (shapes_of (known_of net earlier)) h rs) h.numbers (lists rs) ≡ proof_by kind q (part_proofs (parts_by net (linkage earlier) kind h.numbers) (lists rs)) h.numbers (lists rs)
  fit : (rs : List Record) → Held net earlier q kind h.numbers → AllZip Fits (below q (shapes_of (known_of net earlier)) h) rs → AreSmallAt (kept kind) (lists rs) × FitProof kind q (parts_by net (linkage earlier) kind h.numbers) h.numbers (lists rs)
  row_parts : (rs : List Record) → Held net earlier q kind h.numbers → AllZip Fits (below q (shapes_of (known_of net earlier)) h) rs → PartsWithin (suc (length rs)) (row_tests net earlier q (verdict_by kind h.numbers (lists rs)) (proof_by kind q (part_proofs (parts_by net (linkage earlier) kind h.numbers) (lists rs)) h.numbers (lists rs)))

by_kind : (net : Net) (earlier : Earlier) (q : Question) (kind : HeadKind) (a : HeadOf net earlier q kind) → AreFew net earlier → HeadFits net earlier q kind a → ByKind net earlier q (place_for net earlier q kind) kind (head_record q kind (head_by net earlier q kind a))
by_kind net earlier q kind a w h = record {
  ranks = ranks_by net earlier q kind a w h;
  may = may_by net earlier q kind a h;
  below_is = below_by net earlier q kind a h;
  shown = shown_by net earlier q kind a h;
  fit = fit_by net earlier q kind a w h;
  row_parts = λ rs hold z. row_parts_by net earlier q kind a w h rs hold z (zip_long (due net earlier q kind a) rs z);
}

typed_facts : (net : Net) (earlier : Earlier) (n : ℕ) (kind : HeadKind) (a : HeadOf net earlier (asked n) kind) → number (asked n) ≡ n → AreFew net earlier → HeadFits net earlier (asked n) kind a → FactsAt net earlier n (head_record (asked n) kind (head_by net earlier (asked n) kind a))
typed_facts net earlier n kind a e w h =
    let q = asked n in
    let place = place_for net earlier q kind in
    let ns = numbers net earlier q kind a in
    let head = head_record q kind (head_by net earlier q kind a) in
    let tells = place_tells net earlier q kind a h in
    let k : ByKind net earlier q place (kind_at q place) head = subst (λ (kind : HeadKind). ByKind net earlier q place kind head) (sym tells.0) (by_kind net earlier q kind a w h) in
    let forms : below q (shapes_of (known_of net earlier)) head ≡ forms_below net earlier n (pos place ∷ ns) = subst (λ (m : ℕ). below q (shapes_of (known_of net earlier)) head ≡ map (row_form net (linkage earlier) (class_count m (pos place ∷ ns))) (rows_below m place (many_after net earlier m place) (parts_by net (linkage earlier) (kind_at q place) ns))) e k.below_is in
    let due_forms : (rs : List Record) → AllZip Fits (forms_below net earlier n (pos place ∷ ns)) rs → AllZip Fits (below q (shapes_of (known_of net earlier)) head) rs = λ rs z. subst (λ (fs : List Form). AllZip Fits fs rs) (sym forms) z in
    let light = light_by net earlier q kind a w h in
    record {
      small = (omega (arith, tells.1), light.0);
      short = omega (arith, light.1);
      few = subst (λ (m : ℕ). class_count m (pos place ∷ ns) ≤ MAX_COMPLEXES) e (few_by net earlier q kind a w h);
      ranks = k.ranks;
      may = k.may;
      below_is = forms;
      shown = k.shown;
      fit = λ rs hold z. let f = k.fit in f rs hold (due_forms rs z);
      row_parts = λ rs hold z. let f = k.row_parts in f rs hold (due_forms rs z);
    }

pub head_facts : (net : Net) (earlier : Earlier) (n : ℕ) (h : Record) → number (asked n) ≡ n → IsNetwork net → linkage_count earlier ≤ MAX_COMPLEXES → IsOneOf (head_forms net earlier n) h → FactsAt net earlier n h
head_facts net earlier n h e network few one =
    let q = asked n in
    let limits = network.partial in
    let w : AreFew net earlier = record { species = limits.species_limit; complexes = limits.complexes_limit; reactions = limits.reactions_limit; classes = few } in
    let t = head_typed q (sizes_of (known_of net earlier)) h one in
    let a = head_back (fields q (sizes_of (known_of net earlier)) t.0) t.1 t.2 in
    let is : h ≡ head_record q t.0 (head_by net earlier q t.0 a.0) = t.3 ∙ ap (head_record q t.0) a.1 in
    subst (FactsAt net earlier n) (sym is) (typed_facts net earlier n t.0 a.0 e w (subst (λ (ds : List Datum). FitsHead q (sizes_of (known_of net earlier)) t.0 ds) a.1 t.2))
