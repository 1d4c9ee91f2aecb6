-- The row of a side, counted term by term while its names are added.
use Rattle.crn_net.proofs.Prelude.{◌≡◌, ◌≢◌, ℕ, ◌<◌, ◌≤◌, ◌+◌, false, List, [], ◌∷◌, ◌++◌, length, get_or, take, map, replicate, set, refl, sym, ap, subst, ◌∙◌, inl, inr, arith, Ok, Err, ℤ, pos, ◌+ℤ◌, ◌≤ℤ◌, bytes_eq, cases_lt, cases_eq, cases_Bool, ints, bytes_eq-Decides, length-set, get_or-set_same, get_or-set_other, get_or-take, get_or-map, length-map, length-take-le, length-replicate, length_push, ext_get_or, take_all, IsIn, AreDistinct, firsts, IsAmount, amount_in, amounts_in, MAX_SPECIES, MAX_AMOUNT, NetFault, SelfReaction, TooManySpecies, TooManyComplexes, TooManyReactions, NoReaction, NoMemory, Term, name_at, side_of, NotesName, NotesSide, IsRowFor, in_at, in_right, same_place, distinct_push, firsts_has, none_said, entry_of_zeros}
use Rattle.crn_net.proofs.Amounts.{amount_yes, amount_no}
use Rattle.crn_net.proofs.Members.{amount_part}
use Rattle.crn_net.proofs.Names.{no_more, names_known, names_new, names_over, names_of_side, kept_push, kept_all}

-- place by place: the row holds the amounts of the names on the side, and then 0
pub record IsCounted (names : List (List ℕ)) (side : List (List ℕ × ℕ)) (row : List ℤ) : Type 0 where
  pub long : length row ≡ MAX_SPECIES
  pub amounts : (k : ℕ) → k < length names → get_or row k (pos 0) ≡ pos (amount_in side (get_or names k []))
  pub rest : (k : ℕ) → length names ≤ k → get_or row k (pos 0) ≡ pos 0

pub counted_is : (names : List (List ℕ)) (side : List (List ℕ × ℕ)) (row : List ℤ) → length names ≤ MAX_SPECIES → IsCounted names side row → IsRowFor names side row
counted_is names side row few h =
    let n = length names in
    let f : List ℕ → ℤ = λ name. pos (amount_in side name) in
    let long = h.long in
    let prefix : length (take n row) ≡ n = length-take-le n row (omega (arith, long, few)) in
    record {
      amounts = ext_get_or (pos 0) (take n row) (amounts_in names side) (prefix ∙ sym (length-map names f)) (λ k lt.
          let below : k < n = omega (arith, prefix, lt) in
          get_or-take n row k (pos 0) below ∙ h.amounts k below ∙ sym (get_or-map f names k [] (pos 0) below));
      is = record { long = h.long; rest = h.rest };
    }

pub is_counted : (names : List (List ℕ)) (side : List (List ℕ × ℕ)) (row : List ℤ) → IsRowFor names side row → IsCounted names side row
is_counted names side row h =
    let f : List ℕ → ℤ = λ name. pos (amount_in side name) in
    record {
      long = h.is.long;
      amounts = λ k lt. sym (get_or-take (length names) row k (pos 0) lt) ∙ ap (λ (t : List ℤ). get_or t k (pos 0)) h.amounts ∙ get_or-map f names k [] (pos 0) lt;
      rest = h.is.rest;
    }

-- a side has the amount 0 of the names after its own
pub counted_wider : (names wider : List (List ℕ)) (side : List (List ℕ × ℕ)) (row : List ℤ) → IsCounted names side row → AreDistinct wider → take (length names) wider ≡ names → length names ≤ length wider
    → ((name : List ℕ) → IsIn name (map (λ t. t.0) side) → IsIn name names) → IsCounted wider side row
counted_wider names wider side row h d kept more has =
    let n = length names in
    let same : (k : ℕ) → k < n → get_or wider k [] ≡ get_or names k [] = λ k lt. sym (get_or-take n wider k [] lt) ∙ ap (λ (t : List (List ℕ)). get_or t k []) kept in
    let none : (k : ℕ) → n ≤ k → k < length wider → amount_in side (get_or wider k []) ≡ 0 = λ k le lt. none_said side (get_or wider k []) (λ i.
    let j = in_at (get_or wider k []) names [] (has (get_or wider k []) i) in
    let at = j.1 in
    let twice : j.0 ≡ k = same_place wider j.0 k [] d (omega (arith, at, more)) lt (same j.0 at ∙ j.2) in
    omega (arith, twice, at, le)) in
    record {
      long = h.long;
      amounts = λ k lt. elim (cases_lt k n) [
        | inl below ↦ h.amounts k below ∙ ap (λ (name : List ℕ). pos (amount_in side name)) (sym (same k below))
        | inr above ↦ h.rest k above ∙ ap pos (sym (none k above lt))
      ];
      rest = λ k le. h.rest k (omega (arith, more, le));
    }

-- one more term, whose name is at a place
pub counted_more : (names : List (List ℕ)) (text : List ℕ) (side : List Term) (i place : ℕ) (d : Term) (row : List ℤ) (v : ℤ) → i < length side → AreDistinct names → length names ≤ MAX_SPECIES → place < length names
    → get_or names place [] ≡ name_at text (get_or side i d) → IsCounted names (side_of text (take i side)) row → v ≡ get_or row place (pos 0) +ℤ pos (get_or side i d).count
    → IsCounted names (side_of text (take (i + 1) side)) (set row place v)
counted_more names text side i place d row v lt apart few at is h value =
    let t = get_or side i d in
    let prefix = side_of text (take i side) in
    let long = h.long in
    let here : get_or (set row place v) place (pos 0) ≡ pos (amount_in (side_of text (take (i + 1) side)) (get_or names place [])) =
    let name = get_or names place [] in
    let more = amount_yes text name side i (amount_in prefix name) d lt refl ((bytes_eq-Decides (name_at text t) name).1 (sym is)) in
    let was = h.amounts place at in
    get_or-set_same row place v (pos 0) (omega (arith, long, few, at)) ∙ (let sum : v ≡ pos (amount_in prefix name + t.count) = value ∙ ap (λ (u : ℤ). u +ℤ pos t.count) was in sum) ∙ ap pos more in
    record {
      long = length-set row place v ∙ h.long;
      amounts = λ k below. elim (cases_eq k place) [
        | inl e ↦ subst (λ (u : ℕ). get_or (set row place v) u (pos 0) ≡ pos (amount_in (side_of text (take (i + 1) side)) (get_or names u []))) (sym e) here
        | inr ne ↦
            let name = get_or names k [] in
            let miss : bytes_eq (name_at text t) name ≡ false = elim (cases_Bool (bytes_eq (name_at text t) name)) [
              | inl yes' ↦ absurd (ne (same_place names k place [] apart below at (sym ((bytes_eq-Decides (name_at text t) name).0 yes') ∙ sym is)))
              | inr no' ↦ no'
            ] in
            get_or-set_other row place k v (pos 0) ne ∙ h.amounts k below ∙ ap pos (amount_no text name side i (amount_in prefix name) d lt refl miss)
      ];
      rest = λ k le. let ne : k ≢ place = omega (arith, at, le) in get_or-set_other row place k v (pos 0) ne ∙ h.rest k le;
    }

-- ---- the loop over the terms of a side

-- the names that the terms so far added, and their amounts
pub record IsNoting (old : List (List ℕ)) (text : List ℕ) (side : List Term) (i : ℕ) (names : List (List ℕ)) (row : List ℤ) : Type 0 where
  pub distinct : AreDistinct names
  pub few : length names ≤ MAX_SPECIES
  pub are : names ≡ firsts bytes_eq (old ++ map (name_at text) (take i side))
  pub kept : take (length old) names ≡ old
  pub counted : IsCounted names (side_of text (take i side)) row

pub noting_none : (old : List (List ℕ)) (text : List ℕ) (side : List Term) → AreDistinct old → length old ≤ MAX_SPECIES → IsNoting old text side 0 old (replicate MAX_SPECIES (pos 0))
noting_none old text side distinct few = record {
  distinct = distinct;
  few = few;
  are = no_more old distinct;
  kept = kept_all old;
  counted = record {
    long = length-replicate MAX_SPECIES (pos 0);
    amounts = λ k lt. entry_of_zeros MAX_SPECIES k;
    rest = λ k le. entry_of_zeros MAX_SPECIES k;
  };
}

-- the terms so far name what is there
named : (old names : List (List ℕ)) (text : List ℕ) (side : List Term) → names ≡ firsts bytes_eq (old ++ map (name_at text) side) → (name : List ℕ) → IsIn name (map (λ t. t.0) (side_of text side)) → IsIn name names
named old names text side are name i =
    let there : IsIn name (map (name_at text) side) = subst (λ (t : List (List ℕ)). IsIn name t) (names_of_side text side) i in
    subst (λ (t : List (List ℕ)). IsIn name t) (sym are) (firsts_has bytes_eq bytes_eq-Decides (old ++ map (name_at text) side) name (in_right name old (map (name_at text) side) there))

pub noting_more : (old : List (List ℕ)) (text : List ℕ) (side : List Term) (i place : ℕ) (d : Term) (names new : List (List ℕ)) (row : List ℤ) (v : ℤ) → IsNoting old text side i names row → i < length side
    → NotesName names (name_at text (get_or side i d)) (Ok place) new → v ≡ get_or row place (pos 0) +ℤ pos (get_or side i d).count → IsNoting old text side (i + 1) new (set row place v)
noting_more old text side i place d names new row v h lt (inl p, at, is, few) value =
    let P : List (List ℕ) → Type 0 = λ t. IsNoting old text side (i + 1) t (set row place v) in
    let here = subst (λ (t : List (List ℕ)). place < length t) p.1 at in
    let name = subst (λ (t : List (List ℕ)). get_or t place [] ≡ name_at text (get_or side i d)) p.1 is in
    subst P (sym p.1) (record {
      distinct = h.distinct;
      few = h.few;
      are = names_known old names text side i d lt h.are p.0;
      kept = h.kept;
      counted = counted_more names text side i place d row v lt h.distinct h.few here name h.counted value;
    })
noting_more old text side i place d names new row v h lt (inr p, at, is, few) value =
    let x = name_at text (get_or side i d) in
    let wider = names ++ x ∷ [] in
    let P : List (List ℕ) → Type 0 = λ t. IsNoting old text side (i + 1) t (set row place v) in
    let here = subst (λ (t : List (List ℕ)). place < length t) p.1 at in
    let name = subst (λ (t : List (List ℕ)). get_or t place [] ≡ x) p.1 is in
    let most = subst (λ (t : List (List ℕ)). length t ≤ MAX_SPECIES) p.1 few in
    let distinct = distinct_push names x h.distinct p.0 in
    let long = length_push names x in
    let counted = counted_wider names wider (side_of text (take i side)) row h.counted distinct (kept_push names names x (kept_all names)) (omega (arith, long)) (named old names text (take i side) h.are) in
    subst P (sym p.1) (record {
      distinct = distinct;
      few = most;
      are = names_new old names text side i d lt h.are p.0;
      kept = kept_push old names x h.kept;
      counted = counted_more wider text side i place d row v lt distinct most here name counted value;
    })

-- what a row holds is an amount, at each place
pub noting_amount : (old : List (List ℕ)) (text : List ℕ) (side : List Term) (i place : ℕ) (names : List (List ℕ)) (row : List ℤ) → IsNoting old text side i names row → ((name : List ℕ) → amount_in (side_of text side) name ≤ MAX_AMOUNT) → IsAmount (get_or row place (pos 0))
noting_amount old text side i place names row h most =
    elim (cases_lt place (length names)) [
      | inl below ↦
          let name = get_or names place [] in
          let part = amount_part text name side i in
          let all = most name in
          subst IsAmount (sym (h.counted.amounts place below)) (omega (arith, ints), omega (arith, ints, part, all))
      | inr above ↦ subst IsAmount (sym (h.counted.rest place above)) (omega (arith, ints), omega (arith, ints))
    ]

-- and so is the entry after the next term
pub noting_sum : (old : List (List ℕ)) (text : List ℕ) (side : List Term) (i place : ℕ) (d : Term) (names new : List (List ℕ)) (row : List ℤ) → IsNoting old text side i names row → i < length side
    → NotesName names (name_at text (get_or side i d)) (Ok place) new → ((name : List ℕ) → amount_in (side_of text side) name ≤ MAX_AMOUNT) → (place < MAX_SPECIES) × ((get_or row place (pos 0) +ℤ pos (get_or side i d).count) ≤ℤ pos MAX_AMOUNT)
noting_sum old text side i place d names new row h lt n most =
    let v : ℤ = get_or row place (pos 0) +ℤ pos (get_or side i d).count in
    let within = n.1 in
    let few = n.3 in
    let long = h.counted.long in
    let at : place < MAX_SPECIES = omega (arith, within, few) in
    let next = noting_more old text side i place d names new row v h lt n refl in
    let amount = noting_amount old text side (i + 1) place new (set row place v) next most in
    (at, subst (λ (t : ℤ). t ≤ℤ pos MAX_AMOUNT) (get_or-set_same row place v (pos 0) (omega (arith, at, long))) amount.1)

pub noting_stops : (old : List (List ℕ)) (text : List ℕ) (side : List Term) (i : ℕ) (d : Term) (names new : List (List ℕ)) (row : List ℤ) (e : NetFault) → IsNoting old text side i names row → i < length side
    → NotesName names (name_at text (get_or side i d)) (Err e) new → NotesSide old (side_of text side) (Err e) new row
noting_stops old text side i d names new row SelfReaction h lt n = n
noting_stops old text side i d names new row TooManySpecies h lt n =
    let over = names_over old names text side i d MAX_SPECIES lt h.are n.0 n.1 in
    subst (λ (t : List (List ℕ)). MAX_SPECIES < length (firsts bytes_eq (old ++ t))) (sym (names_of_side text side)) over
noting_stops old text side i d names new row TooManyComplexes h lt n = absurd n
noting_stops old text side i d names new row TooManyReactions h lt n = absurd n
noting_stops old text side i d names new row NoReaction h lt n = n
noting_stops old text side i d names new row NoMemory h lt n = tt

pub noting_ends : (old : List (List ℕ)) (text : List ℕ) (side : List Term) (i : ℕ) (names : List (List ℕ)) (row : List ℤ) → IsNoting old text side i names row → length side ≤ i → NotesSide old (side_of text side) (Ok tt) names row
noting_ends old text side i names row h le =
    let all = take_all i side le in
    let are = h.are ∙ ap (λ (t : List Term). firsts bytes_eq (old ++ map (name_at text) t)) all ∙ ap (λ (t : List (List ℕ)). firsts bytes_eq (old ++ t)) (sym (names_of_side text side)) in
    (are, h.few, counted_is names (side_of text side) row h.few (subst (λ (t : List Term). IsCounted names (side_of text t) row) all h.counted))
