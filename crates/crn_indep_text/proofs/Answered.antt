-- The lines of a document on the finest independent decomposition are those of the formed and valid answers.
use Rattle.crn_indep_text.proofs.Prelude.{◌≡◌, ◌≤◌, ◌+◌, ◌-◌, ◌++◌, ℕ, suc, true, List, [], ◌∷◌, length, map, refl, sym, ap, subst, ◌∙◌, inl, inr, arith, ℤ, pos, min, slice_index, codes, bytes_eq, AllByRecursion, append-nil, map-append, length-range_with_len, IsIn, IsAscending, Net, IsNetwork, abs_back, all_in, all_from, in_range, range_bounds, zip_append, RankProof, IsTree, AreFrom, AreFreeRows, IsRankProof, Record, Form, Rising, Says, Fits, record_text, record_form, small_form, free_form, Course, Give, ◌>>=◌, IsWrittenBy, word_of, first_number, IsOneOf, one_word, small_record, rank_records, asks_part, AllPlain, HasNoEnd, IsAnswered, IsBounded, IsPlain, words_fit, fitting_is_plain, short_both, give_back, give_no_end, no_end_then, part_no_end, written_cuts, written_then, in_by_test, plain_is_line, record_is, rising, rising_fits, small_numbers, small_numbers_fit, one_back, number_fits, first_back, IsFirst, Say, only, one_said, none_said, line_on, given, either_no_end, wide_fields, wide_numbers, wide_numbers_fit, species_few, reactions_few, free_bounded, small_bounded, rising_bounded, Parts, Split, Wide, all_reactions, AreTied, HangsByTie, IsShown, IsShownForm, reactions, IsFormedParts, AreValidParts, words, first_forms, base_forms, dual_forms, comb_forms, label_forms, up_forms, depth_forms, Seen, naturals, proof_of, split_seen, open_seen, asks_rows, asks_shown, asks_links, asks_proof, asks_split, asks_rest, asks_decomposition, part, link_records, records, seen_of, meant}
use Rattle.crn_indep_text.proofs.Rows.{rows_back, rows_on, rows_no_end, rows_plain}
use Rattle.crn_indep_text.proofs.Tested.{shown_back, shown_on, shown_no_end}

-- ---- lines of natural numbers

-- the natural numbers of a record of them
naturals_of : (word : List ℕ) (xs : List ℕ) (r : Record) → r ≡ small_record word xs → naturals r ≡ xs
naturals_of word xs r e = ap naturals e ∙ abs_back xs

-- a record that has so many numbers of this range
pub small_back : (word : List ℕ) (count least most : ℕ) (r : Record) → IsOneOf (small_form word count least most ∷ []) r → (r ≡ small_record word (naturals r)) × AreFrom count least most (naturals r)
small_back word count least most r f =
    let fits = only (small_form word count least most) r f in
    let s = small_numbers count least most r.numbers fits.1 in
    let is : r ≡ small_record word s.0 = record_is r (word ∷ []) (map pos s.0) fits.0 s.1 in
    let same : s.0 ≡ naturals r = sym (naturals_of word s.0 r is) in
    (is ∙ ap (small_record word) same, subst (AreFrom count least most) same s.2)

-- a record of so many ascending numbers
pub rising_back : (word : List ℕ) (count most : ℕ) (r : Record) → IsOneOf (record_form word (Rising count most ∷ []) ∷ []) r → (r ≡ small_record word (naturals r)) × AreFrom count 1 most (naturals r) × IsAscending (naturals r)
rising_back word count most r f =
    let fits = only (record_form word (Rising count most ∷ [])) r f in
    let p = fits.1 in
    let q = rising count most p.0 p.3.0 in
    let all : r.numbers ≡ map pos q.0 = p.2 ∙ ap (λ (t : List ℤ). p.0 ++ t) p.4 ∙ append-nil p.0 ∙ q.1 in
    let is : r ≡ small_record word q.0 = record_is r (word ∷ []) (map pos q.0) fits.0 all in
    let same : q.0 ≡ naturals r = sym (naturals_of word q.0 r is) in
    (is ∙ ap (small_record word) same, subst (AreFrom count 1 most) same q.2, subst IsAscending same q.3)

-- ---- what is formed

-- numbers from 1 to the number of reactions are reactions
base_in : (net : Net) (xs : List ℕ) (r : ℕ) → AllByRecursion (λ x. (1 ≤ x) × (x ≤ length net.reactions)) xs → IsIn r xs → IsIn r (all_reactions net)
base_in net xs r each i =
    let b = all_in (λ x. (1 ≤ x) × (x ≤ length net.reactions)) xs r each i in
    in_range r 1 (length net.reactions) b.0 (omega (arith, b.1))

base_from : (net : Net) (rank : ℕ) (p : RankProof) → IsRankProof net (all_reactions net) rank p → AreFrom rank 1 (reactions net) p.base.list
base_from net rank p f = record {
  long = f.long;
  each = all_from (λ x. (1 ≤ x) × (x ≤ length net.reactions)) p.base.list (λ x i. let from = f.from in let b = range_bounds x 1 (length net.reactions) (from x i) in (b.0, omega (arith, b.1)));
}

-- how many combinations a rank proof has
combs_count : (net : Net) (rank : ℕ) → length (all_reactions net) - rank ≡ reactions net - rank
combs_count net rank = ap (λ (n : ℕ). n - rank) (length-range_with_len 1 (length net.reactions))

-- the lines of a proof
pub proof_formed : (net : Net) (rank : ℕ) (base : List ℕ) (duals combs : List (List ℤ)) → AreFrom rank 1 (reactions net) base → IsAscending base → AreFreeRows rank (length net.names) duals → AreFreeRows (reactions net - rank) (suc rank) combs
    → IsRankProof net (all_reactions net) rank (proof_of base duals combs)
proof_formed net rank base duals combs b up d c =
    let each = b.each in
    record { long = b.long; ascending = up; from = λ r i. base_in net base r each i; duals = d; combs = subst (λ (n : ℕ). AreFreeRows n (suc rank) combs) (sym (combs_count net rank)) c }

-- ---- from lines to answers

proof_back : (net : Net) (n rank : ℕ) (ls : List (List ℕ)) (p : RankProof) → IsWrittenBy (asks_proof net n rank) ls p → IsRankProof net (all_reactions net) rank p × Say ls (rank_records p)
proof_back net n rank ls p w =
    let b = first_back words n (base_forms net rank) (λ base. asks_rows (n + 1) (dual_forms net) rank >>= (λ duals. after base duals)) ls p w in
    let f = rising_back (codes "base") rank (reactions net) b.first b.fits in
    let a = written_cuts (asks_rows (n + 1) (dual_forms net) rank) (λ duals. after b.first duals) b.more p b.rest in
    let d = rows_back (codes "dual") (length net.names) (n + 1) rank a.1 a.0 a.4 in
    let e = written_cuts (asks_rows (n + 1 + rank) (comb_forms rank) (reactions net - rank)) (λ combs. Give (proof_of (naturals b.first) a.0 combs)) a.2 p a.5 in
    let c = rows_back (codes "comb") (suc rank) (n + 1 + rank) (reactions net - rank) e.1 e.0 e.4 in
    let g = give_back (proof_of (naturals b.first) a.0 e.0) p e.2 e.5 in
    let combs : a.2 ≡ e.1 = e.3 ∙ ap (λ (t : List (List ℕ)). e.1 ++ t) g.1 ∙ append-nil e.1 in
    let rest : Say a.2 (map (one_word (codes "comb")) e.0) = subst (λ (t : List (List ℕ)). Say t (map (one_word (codes "comb")) e.0)) (sym combs) c.0 in
    let rows : Say b.more (map (one_word (codes "dual")) a.0 ++ map (one_word (codes "comb")) e.0) = subst (λ (t : List (List ℕ)). Say t (map (one_word (codes "dual")) a.0 ++ map (one_word (codes "comb")) e.0)) (sym a.3)
    (zip_append Says a.1 (map (one_word (codes "dual")) a.0) a.2 (map (one_word (codes "comb")) e.0) d.0 rest) in
    let made = proof_of (naturals b.first) a.0 e.0 in (
      subst (IsRankProof net (all_reactions net) rank) g.0 (proof_formed net rank (naturals b.first) a.0 e.0 f.1 f.2 d.1 c.1),
      subst (λ (q : RankProof). Say ls (rank_records q)) g.0
          (one_said ls b.more b.line (small_record (codes "base") (naturals b.first)) (map (one_word (codes "dual")) a.0 ++ map (one_word (codes "comb")) e.0) b.are (subst (Says b.line) f.0 b.says) rows),
    )
  where
    after : Record → List (List ℤ) → Course RankProof
    after base duals = asks_rows (n + 1 + rank) (comb_forms rank) (reactions net - rank) >>= (λ combs. Give (proof_of (naturals base) duals combs))

-- what the lines of the labels and of the links are
pub record AreLinksOf (net : Net) (proof : RankProof) (ls : List (List ℕ)) (read : Seen) : Type 0 where
  pub label : List ℕ
  pub up : List ℕ
  pub depth : List ℕ
  pub said : Say ls (link_records label up depth)
  pub label_is : AreFrom (reactions net) 1 (reactions net) label
  pub up_is : AreFrom (reactions net) 0 (reactions net) up
  pub depth_is : AreFrom (reactions net) 0 (reactions net - 1) depth
  pub shown : IsShown net proof label up depth
  pub read_is : read ≡ split_seen proof label

links_back : (net : Net) (head n : ℕ) (proof : RankProof) (ls : List (List ℕ)) (y : ℕ × Seen) → IsWrittenBy (asks_links net head n proof) ls y → AreLinksOf net proof ls y.1
links_back net head n proof ls y w =
    let a = first_back words n (label_forms net) (λ label. asks_part words (n + 1) (up_forms net) >>= (λ up. after_up label up)) ls y w in
    let b = first_back words (n + 1) (up_forms net) (λ up. after_up a.first up) a.more y a.rest in
    let c = first_back words (n + 2) (depth_forms net) (λ depth. last a.first b.first depth) b.more y b.rest in
    let f = small_back (codes "label") (reactions net) 1 (reactions net) a.first a.fits in
    let g = small_back (codes "up") (reactions net) 0 (reactions net) b.first b.fits in
    let h = small_back (codes "depth") (reactions net) 0 (reactions net - 1) c.first c.fits in
    let label = naturals a.first in
    let up = naturals b.first in
    let depth = naturals c.first in
    let s = shown_back net head proof label up depth (λ x. Give (n + 3, split_seen proof label)) c.more y c.rest in
    let e = give_back (n + 3, split_seen proof label) y c.more s.1 in
    record {
      label = label;
      up = up;
      depth = depth;
      said = one_said ls a.more a.line (small_record (codes "label") label) (small_record (codes "up") up ∷ small_record (codes "depth") depth ∷ []) a.are (subst (Says a.line) f.0 a.says)
          (one_said a.more b.more b.line (small_record (codes "up") up) (small_record (codes "depth") depth ∷ []) b.are (subst (Says b.line) g.0 b.says)
          (one_said b.more c.more c.line (small_record (codes "depth") depth) [] c.are (subst (Says c.line) h.0 c.says) (none_said c.more e.1)));
      label_is = f.1;
      up_is = g.1;
      depth_is = h.1;
      shown = s.0;
      read_is = sym (ap (λ (q : ℕ × Seen). q.1) e.0);
    }
  where
    last : Record → Record → Record → Course (ℕ × Seen)
    last label up depth = asks_shown net head proof (naturals label) (naturals up) (naturals depth) >>= (λ x. Give (n + 3, split_seen proof (naturals label)))

    after_up : Record → Record → Course (ℕ × Seen)
    after_up label up = asks_part words (n + 2) (depth_forms net) >>= (λ depth. last label up depth)

-- the lines say the records of a formed and valid answer, of which this is read
abbrev IsAnswerOf : Net → List (List ℕ) → Seen → Type 0
IsAnswerOf net ls read = (answer : Parts) × IsFormedParts net answer × AreValidParts net answer × Say ls (records answer) × (read ≡ seen_of answer)

-- the numbers of a list, without more memory
abbrev kept : List ℕ → Rattle.crn_vec.specs.Kept.KeptNums
kept xs = record { list = xs; spare = 0 }

split_back : (net : Net) (head rank : ℕ) (ls more : List (List ℕ)) (line : List ℕ) (y : ℕ × Seen) → 1 ≤ rank → rank ≤ min (length net.names) (reactions net) → ls ≡ line ∷ more → Says line (small_record (codes "rank") (rank ∷ []))
    → IsWrittenBy (asks_split net head rank) more y → IsAnswerOf net ls y.1
split_back net head rank ls more line y some most are says w =
    let at = head + 2 + rank + (reactions net - rank) in
    let a = written_cuts (asks_proof net (head + 1) rank) (λ proof. asks_links net head at proof) more y w in
    let p = proof_back net (head + 1) rank a.1 a.0 a.4 in
    let l = links_back net head at a.0 a.2 y a.5 in
    let proof = a.0 in
    let long : length proof.base.list ≡ rank = (let f = p.0 in f.long) in
    let said : Say more (rank_records proof ++ link_records l.label l.up l.depth) = subst (λ (t : List (List ℕ)). Say t (rank_records proof ++ link_records l.label l.up l.depth)) (sym a.3)
    (zip_append Says a.1 (rank_records proof) a.2 (link_records l.label l.up l.depth) p.1 l.said) in
    let answer : Parts = Split proof (kept l.label) (kept l.up) (kept l.depth) in
    let form : IsShownForm net rank proof l.label l.up l.depth = record { rank_is = (some, most); proof_is = p.0; labels_are = l.label_is; up_is = l.up_is; depth_is = l.depth_is } in (
      answer,
      subst (λ (k : ℕ). IsShownForm net k proof l.label l.up l.depth) (sym long) form,
      l.shown,
      one_said ls more line (small_record (codes "rank") (length proof.base.list ∷ [])) (rank_records proof ++ link_records l.label l.up l.depth) are
          (subst (λ (k : ℕ). Says line (small_record (codes "rank") (k ∷ []))) (sym long) says) said,
      l.read_is,
    )

-- the lines that are read are those of a formed and valid answer
pub lines_back : (net : Net) (n : ℕ) (ls : List (List ℕ)) (y : ℕ × Seen) → IsWrittenBy (asks_decomposition net n) ls y → IsAnswerOf net ls y.1
lines_back net n ls y w = by b.fits
  where
    b : IsFirst (first_forms net) (λ r. asks_rest net n r) ls y
    b = first_back words n (first_forms net) (λ r. asks_rest net n r) ls y w

    by : IsOneOf (first_forms net) b.first → IsAnswerOf net ls y.1
    by (form, inl e, f) =
        let k = one_back (codes "rank") 1 (min (length net.names) (reactions net)) b.first (subst (λ (x : Form). Fits x b.first) e f) in
        split_back net n k.0 ls b.more b.line y k.2.0 k.2.1 b.are (subst (Says b.line) k.1 b.says) (subst (λ (q : Record). IsWrittenBy (asks_rest net n q) b.more y) k.1 b.rest)
    by (form, inr (inl e), f) =
        let fits : Fits (record_form (codes "wide") (wide_fields (length net.names) (reactions net))) b.first = subst (λ (x : Form). Fits x b.first) e f in
        let v = wide_numbers (length net.names) (reactions net) b.first.numbers fits.1 in
        let is : b.first ≡ small_record (codes "wide") (v.0 ∷ v.1) = record_is b.first (codes "wide" ∷ []) (map pos (v.0 ∷ v.1)) fits.0 v.2 in
        let rest : IsWrittenBy (Give (n + 1, open_seen)) b.more y = subst (λ (q : Record). IsWrittenBy (asks_rest net n q) b.more y) is b.rest in
        let g = give_back (n + 1, open_seen) y b.more rest in
        (Wide v.0 (kept v.1), v.3, tt, one_said ls b.more b.line (small_record (codes "wide") (v.0 ∷ v.1)) [] b.are (subst (Says b.line) is b.says) (none_said b.more g.1), sym (ap (λ (q : ℕ × Seen). q.1) g.0))
    by (form, inr (inr none), f) = absurd none

-- ---- no end within

proof_no_end : (net : Net) (n rank : ℕ) → HasNoEnd (asks_proof net n rank)
proof_no_end net n rank = no_end_then (asks_part words n (base_forms net rank)) (λ base. asks_rows (n + 1) (dual_forms net) rank >>= (λ duals. after base duals)) (part_no_end words n (base_forms net rank))
    (λ base. no_end_then (asks_rows (n + 1) (dual_forms net) rank) (λ duals. after base duals) (rows_no_end (n + 1) (dual_forms net) rank)
    (λ duals. no_end_then (asks_rows (n + 1 + rank) (comb_forms rank) (reactions net - rank)) (λ combs. Give (proof_of (naturals base) duals combs)) (rows_no_end (n + 1 + rank) (comb_forms rank) (reactions net - rank)) (λ combs. give_no_end (proof_of (naturals base) duals combs))))
  where
    after : Record → List (List ℤ) → Course RankProof
    after base duals = asks_rows (n + 1 + rank) (comb_forms rank) (reactions net - rank) >>= (λ combs. Give (proof_of (naturals base) duals combs))

links_no_end : (net : Net) (head n : ℕ) (proof : RankProof) → HasNoEnd (asks_links net head n proof)
links_no_end net head n proof = no_end_then (asks_part words n (label_forms net)) (λ label. asks_part words (n + 1) (up_forms net) >>= (λ up. after_up label up)) (part_no_end words n (label_forms net))
    (λ label. no_end_then (asks_part words (n + 1) (up_forms net)) (λ up. after_up label up) (part_no_end words (n + 1) (up_forms net))
    (λ up. no_end_then (asks_part words (n + 2) (depth_forms net)) (λ depth. last label up depth) (part_no_end words (n + 2) (depth_forms net))
    (λ depth. no_end_then (asks_shown net head proof (naturals label) (naturals up) (naturals depth)) (λ x. Give (n + 3, split_seen proof (naturals label))) (shown_no_end net head proof (naturals label) (naturals up) (naturals depth))
    (λ x. give_no_end (n + 3, split_seen proof (naturals label))))))
  where
    last : Record → Record → Record → Course (ℕ × Seen)
    last label up depth = asks_shown net head proof (naturals label) (naturals up) (naturals depth) >>= (λ x. Give (n + 3, split_seen proof (naturals label)))

    after_up : Record → Record → Course (ℕ × Seen)
    after_up label up = asks_part words (n + 2) (depth_forms net) >>= (λ depth. last label up depth)

split_no_end : (net : Net) (head rank : ℕ) → HasNoEnd (asks_split net head rank)
split_no_end net head rank = no_end_then (asks_proof net (head + 1) rank) (λ proof. asks_links net head (head + 2 + rank + (reactions net - rank)) proof) (proof_no_end net (head + 1) rank)
    (λ proof. links_no_end net head (head + 2 + rank + (reactions net - rank)) proof)

pub lines_no_end : (net : Net) (n : ℕ) → HasNoEnd (asks_decomposition net n)
lines_no_end net n = no_end_then (asks_part words n (first_forms net)) (λ r. asks_rest net n r) (part_no_end words n (first_forms net))
    (λ r. either_no_end (bytes_eq (word_of r) (codes "rank")) (asks_split net n (first_number r.numbers)) (Give (n + 1, open_seen)) (split_no_end net n (first_number r.numbers)) (give_no_end (n + 1, open_seen)))

-- ---- from answers to lines

wide_row : (net : Net) → IsNetwork net → IsBounded (record_form (codes "wide") (wide_fields (length net.names) (reactions net)))
wide_row net w = record { words = refl; few = omega (arith, w.partial.species_limit); fields = ((omega arith, omega (arith, w.partial.species_limit, w.partial.reactions_limit)), (omega (arith, w.partial.species_limit, w.partial.reactions_limit), tt)) }

-- numbers of this range fit
small_fits : (word : List ℕ) (count least most : ℕ) (xs : List ℕ) → AreFrom count least most xs → Fits (small_form word count least most) (small_record word xs)
small_fits word count least most xs f = (refl, small_numbers_fit count least most xs f)

rising_fit : (word : List ℕ) (count most : ℕ) (xs : List ℕ) → AreFrom count 1 most xs → IsAscending xs → Fits (record_form word (Rising count most ∷ [])) (small_record word xs)
rising_fit word count most xs f up = (refl, rising_fits count most xs f up)

-- the rows of a rank
base_row : (net : Net) (rank : ℕ) → IsNetwork net → rank ≤ reactions net → IsBounded (record_form (codes "base") (Rising rank (reactions net) ∷ []))
base_row net rank w le = rising_bounded (codes "base") rank (reactions net) refl (omega (arith, le, reactions_few net w)) (omega (arith, reactions_few net w))

comb_row : (net : Net) (rank : ℕ) → IsNetwork net → rank ≤ length net.names → IsBounded (free_form (codes "comb") (suc rank))
comb_row net rank w le = free_bounded (codes "comb") (suc rank) refl (omega (arith, le, w.partial.species_limit))

dual_row : (net : Net) → IsNetwork net → IsBounded (free_form (codes "dual") (length net.names))
dual_row net w = free_bounded (codes "dual") (length net.names) refl (species_few net w)

link_row : (net : Net) (word : List ℕ) (least most : ℕ) → IsNetwork net → words_fit (word ∷ []) ≡ true → least ≤ 1 → most ≤ reactions net → IsBounded (small_form word (reactions net) least most)
link_row net word least most w fit low high = small_bounded word (reactions net) least most fit (reactions_few net w) (omega (arith, low)) (omega (arith, high, reactions_few net w))

rank_row : (net : Net) → IsNetwork net → IsBounded (small_form (codes "rank") 1 1 (min (length net.names) (reactions net)))
rank_row net w = small_bounded (codes "rank") 1 1 (min (length net.names) (reactions net)) refl (omega arith) (omega arith) (omega (arith, reactions_few net w))

proof_on : (net : Net) (n rank : ℕ) (p : RankProof) → IsNetwork net → rank ≤ length net.names → rank ≤ reactions net → IsRankProof net (all_reactions net) rank p → IsWrittenBy (asks_proof net n rank) (map record_text (rank_records p)) (proof_of p.base.list p.duals p.combs)
proof_on net n rank p w few less f =
    let base = p.base.list in
    let made = proof_of base p.duals p.combs in
    let r = small_record (codes "base") base in
    let ds = map record_text (map (one_word (codes "dual")) p.duals) in
    let cs = map record_text (map (one_word (codes "comb")) p.combs) in
    let combs : AreFreeRows (reactions net - rank) (suc rank) p.combs = subst (λ (k : ℕ). AreFreeRows k (suc rank) p.combs) (combs_count net rank) f.combs in
    let c : IsWrittenBy (after r p.duals) cs made = subst (λ (t : List (List ℕ)). IsWrittenBy (after r p.duals) t made) (append-nil cs)
    (written_then (asks_rows (n + 1 + rank) (comb_forms rank) (reactions net - rank)) (λ combs. Give (proof_of (naturals r) p.duals combs)) cs [] p.combs made (rows_no_end (n + 1 + rank) (comb_forms rank) (reactions net - rank))
    (rows_on (codes "comb") (suc rank) (n + 1 + rank) (reactions net - rank) p.combs refl (in_by_test (codes "comb") words refl) (comb_row net rank w few) combs) (same r)) in
    let d : IsWrittenBy (asks_rows (n + 1) (dual_forms net) rank >>= (λ duals. after r duals)) (ds ++ cs) made =
    written_then (asks_rows (n + 1) (dual_forms net) rank) (λ duals. after r duals) ds cs p.duals made (rows_no_end (n + 1) (dual_forms net) rank)
    (rows_on (codes "dual") (length net.names) (n + 1) rank p.duals refl (in_by_test (codes "dual") words refl) (dual_row net w) f.duals) c in
    let rest : IsWrittenBy (asks_rows (n + 1) (dual_forms net) rank >>= (λ duals. after r duals)) (map record_text (map (one_word (codes "dual")) p.duals ++ map (one_word (codes "comb")) p.combs)) made =
    subst (λ (t : List (List ℕ)). IsWrittenBy (asks_rows (n + 1) (dual_forms net) rank >>= (λ duals. after r duals)) t made) (sym (map-append record_text (map (one_word (codes "dual")) p.duals) (map (one_word (codes "comb")) p.combs))) d in
    line_on words n (base_forms net rank) (record_form (codes "base") (Rising rank (reactions net) ∷ [])) r (λ base. asks_rows (n + 1) (dual_forms net) rank >>= (λ duals. after base duals))
    (map record_text (map (one_word (codes "dual")) p.duals ++ map (one_word (codes "comb")) p.combs)) made (inl refl) refl (in_by_test (codes "base") words refl) (base_row net rank w less)
    (rising_fit (codes "base") rank (reactions net) base (base_from net rank p f) f.ascending) rest
  where
    after : Record → List (List ℤ) → Course RankProof
    after base duals = asks_rows (n + 1 + rank) (comb_forms rank) (reactions net - rank) >>= (λ combs. Give (proof_of (naturals base) duals combs))

    same : (r : Record) → IsWrittenBy (Give (proof_of (naturals (small_record (codes "base") p.base.list)) p.duals p.combs)) [] (proof_of p.base.list p.duals p.combs)
    same r = subst (λ (xs : List ℕ). IsWrittenBy (Give (proof_of xs p.duals p.combs)) [] (proof_of p.base.list p.duals p.combs)) (sym (abs_back p.base.list)) (given (proof_of p.base.list p.duals p.combs))

links_on : (net : Net) (head n : ℕ) (proof : RankProof) (label up depth : List ℕ) → IsNetwork net → AreFrom (reactions net) 1 (reactions net) label → AreFrom (reactions net) 0 (reactions net) up → AreFrom (reactions net) 0 (reactions net - 1) depth → IsShown net proof label up depth
    → IsWrittenBy (asks_links net head n proof) (map record_text (link_records label up depth)) (n + 3, split_seen proof label)
links_on net head n proof label up depth w f g h s =
    let l = small_record (codes "label") label in
    let u = small_record (codes "up") up in
    let d = small_record (codes "depth") depth in
    let y : ℕ × Seen = (n + 3, split_seen proof label) in
    let tests : IsWrittenBy (asks_shown net head proof label up depth >>= (λ x. Give y)) [] y = shown_on net head proof label up depth (λ x. Give y) [] y s (given y) in
    let end : IsWrittenBy (last l u d) [] y = seen_as (naturals l) (naturals u) (naturals d) (sym (abs_back label)) (sym (abs_back up)) (sym (abs_back depth)) tests in
    line_on words n (label_forms net) (small_form (codes "label") (reactions net) 1 (reactions net)) l (λ label. asks_part words (n + 1) (up_forms net) >>= (λ up. after_up label up)) (record_text u ∷ record_text d ∷ []) y
    (inl refl) refl (in_by_test (codes "label") words refl) (link_row net (codes "label") 1 (reactions net) w refl (omega arith) (omega arith)) (small_fits (codes "label") (reactions net) 1 (reactions net) label f)
    (line_on words (n + 1) (up_forms net) (small_form (codes "up") (reactions net) 0 (reactions net)) u (λ up. after_up l up) (record_text d ∷ []) y
    (inl refl) refl (in_by_test (codes "up") words refl) (link_row net (codes "up") 0 (reactions net) w refl (omega arith) (omega arith)) (small_fits (codes "up") (reactions net) 0 (reactions net) up g)
    (line_on words (n + 2) (depth_forms net) (small_form (codes "depth") (reactions net) 0 (reactions net - 1)) d (λ depth. last l u depth) [] y
    (inl refl) refl (in_by_test (codes "depth") words refl) (link_row net (codes "depth") 0 (reactions net - 1) w refl (omega arith) (omega arith)) (small_fits (codes "depth") (reactions net) 0 (reactions net - 1) depth h) end))
  where
    last : Record → Record → Record → Course (ℕ × Seen)
    last label up depth = asks_shown net head proof (naturals label) (naturals up) (naturals depth) >>= (λ x. Give (n + 3, split_seen proof (naturals label)))

    after_up : Record → Record → Course (ℕ × Seen)
    after_up label up = asks_part words (n + 2) (depth_forms net) >>= (λ depth. last label up depth)

    by : List ℕ → List ℕ → List ℕ → Type 0
    by a b c = IsWrittenBy {A = ℕ × Seen} (asks_shown net head proof a b c >>= (λ x. Give (n + 3, split_seen proof a))) [] (n + 3, split_seen proof label)

    seen_as : (a b c : List ℕ) → label ≡ a → up ≡ b → depth ≡ c → by label up depth → by a b c
    seen_as a b c e1 e2 e3 t = subst (λ (x : List ℕ). by x b c) e1 (subst (λ (x : List ℕ). by label x c) e2 (subst (λ (x : List ℕ). by label up x) e3 t))

-- the lines of a formed and valid answer are read, and this is read of them
abbrev IsRead : Net → ℕ → Parts → Type 0
IsRead net n answer = (k : ℕ) × IsWrittenBy (asks_decomposition net n) (map record_text (records answer)) (k, seen_of answer)

-- what is seen does not look at the memory of a base
tight : (proof : RankProof) (label : List ℕ) → split_seen (proof_of proof.base.list proof.duals proof.combs) label ≡ split_seen proof label
tight proof label = refl

-- nor do the tests
shown_tight : (net : Net) (proof : RankProof) (label up depth : List ℕ) → IsShown net proof label up depth → IsShown net (proof_of proof.base.list proof.duals proof.combs) label up depth
shown_tight net proof label up depth s = record {
  ranks = s.ranks;
  even = record { count = s.even.count; numbered = s.even.numbered; even = λ r q d. let even = s.even.even in even r q (record { out = d.out; place = d.place; inside = d.inside; member = d.member; some = d.some }) };
  linked = λ j lt. tree_tight j (let l = s.linked in l j lt);
}
  where
    made : RankProof
    made = proof_of proof.base.list proof.duals proof.combs

    tie_tight : (r q : ℕ) → AreTied net proof r q → AreTied net made r q
    tie_tight r q (inl d) = inl (record { out = d.out; place = d.place; inside = d.inside; member = d.member; some = d.some })
    tie_tight r q (inr d) = inr (record { out = d.out; place = d.place; inside = d.inside; member = d.member; some = d.some })

    hang_tight : (j : ℕ) → HangsByTie net proof up depth j → HangsByTie net made up depth j
    hang_tight j h = record { tied = tie_tight (suc j) (slice_index up j) h.tied; deeper = h.deeper }

    tree_tight : (j : ℕ) → IsTree (HangsByTie net proof up depth) label up depth j → IsTree (HangsByTie net made up depth) label up depth j
    tree_tight j (inl first) = inl first
    tree_tight j (inr h) = inr (h.0, hang_tight j h.1)

pub lines_on : (net : Net) (n : ℕ) (answer : Parts) → IsNetwork net → IsFormedParts net answer → AreValidParts net answer → IsRead net n answer
lines_on net n (Split proof label up depth) w f v =
    let rank = length proof.base.list in
    let bounds = f.rank_is in
    let made = proof_of proof.base.list proof.duals proof.combs in
    let at = n + 2 + rank + (reactions net - rank) in
    let ls = map record_text (rank_records proof) in
    let ms = map record_text (link_records label.list up.list depth.list) in
    let y : ℕ × Seen = (at + 3, split_seen proof label.list) in
    let p = proof_on net (n + 1) rank proof w (omega (arith, bounds.1)) (omega (arith, bounds.1)) f.proof_is in
    let l = links_on net n at made label.list up.list depth.list w f.labels_are f.up_is f.depth_is (shown_tight net proof label.list up.list depth.list v) in
    let both : IsWrittenBy (asks_split net n rank) (ls ++ ms) y = written_then (asks_proof net (n + 1) rank) (λ p. asks_links net n at p) ls ms made y (proof_no_end net (n + 1) rank) p l in
    let rest : IsWrittenBy (asks_split net n rank) (map record_text (rank_records proof ++ link_records label.list up.list depth.list)) y =
    subst (λ (t : List (List ℕ)). IsWrittenBy (asks_split net n rank) t y) (sym (map-append record_text (rank_records proof) (link_records label.list up.list depth.list))) both in (
      at + 3,
      line_on words n (first_forms net) (small_form (codes "rank") 1 1 (min (length net.names) (reactions net))) (small_record (codes "rank") (rank ∷ [])) (λ r. asks_rest net n r)
          (map record_text (rank_records proof ++ link_records label.list up.list depth.list)) y (inl refl) refl (in_by_test (codes "rank") words refl) (rank_row net w)
          (refl, number_fits (min (length net.names) (reactions net)) rank bounds.0 bounds.1) rest,
    )
lines_on net n (Wide index basis) w f v =
    let r = small_record (codes "wide") (index ∷ basis.list) in
    let form = record_form (codes "wide") (wide_fields (length net.names) (reactions net)) in (
      n + 1,
      line_on words n (first_forms net) form r (λ q. asks_rest net n q) [] (n + 1, open_seen) (inr (inl refl)) refl (in_by_test (codes "wide") words refl) (wide_row net w)
          (refl, wide_numbers_fit (length net.names) (reactions net) index basis.list f) (given (n + 1, open_seen)),
    )

-- ---- plain records

small_plain : (word : List ℕ) (count least most : ℕ) (xs : List ℕ) → IsBounded (small_form word count least most) → AreFrom count least most xs → IsPlain (small_record word xs)
small_plain word count least most xs b f = fitting_is_plain (small_form word count least most) (small_record word xs) b (small_fits word count least most xs f)

pub records_plain : (net : Net) (answer : Parts) → IsNetwork net → IsFormedParts net answer → AllPlain (records answer)
records_plain net (Split proof label up depth) w f =
    let rank = length proof.base.list in
    let bounds = f.rank_is in
    let p = f.proof_is in
    let less : rank ≤ reactions net = omega (arith, bounds.1) in
    let few : rank ≤ length net.names = omega (arith, bounds.1) in
    let duals = rows_plain (codes "dual") (length net.names) rank proof.duals (dual_row net w) p.duals in
    let combs = rows_plain (codes "comb") (suc rank) (length (all_reactions net) - rank) proof.combs (comb_row net rank w few) p.combs in
    let base = fitting_is_plain (record_form (codes "base") (Rising rank (reactions net) ∷ [])) (small_record (codes "base") proof.base.list) (base_row net rank w less) (rising_fit (codes "base") rank (reactions net) proof.base.list (base_from net rank proof p) p.ascending) in
    let rows : AllPlain (rank_records proof) = (base, short_both (map (one_word (codes "dual")) proof.duals) (map (one_word (codes "comb")) proof.combs) duals combs) in
    let links : AllPlain (link_records label.list up.list depth.list) = (
      small_plain (codes "label") (reactions net) 1 (reactions net) label.list (link_row net (codes "label") 1 (reactions net) w refl (omega arith) (omega arith)) f.labels_are,
      (
        small_plain (codes "up") (reactions net) 0 (reactions net) up.list (link_row net (codes "up") 0 (reactions net) w refl (omega arith) (omega arith)) f.up_is,
        (small_plain (codes "depth") (reactions net) 0 (reactions net - 1) depth.list (link_row net (codes "depth") 0 (reactions net - 1) w refl (omega arith) (omega arith)) f.depth_is, tt),
      ),
    ) in (
      fitting_is_plain (small_form (codes "rank") 1 1 (min (length net.names) (reactions net))) (small_record (codes "rank") (rank ∷ [])) (rank_row net w) (refl, number_fits (min (length net.names) (reactions net)) rank bounds.0 bounds.1),
      short_both (rank_records proof) (link_records label.list up.list depth.list) rows links,
    )
records_plain net (Wide index basis) w f =
    (fitting_is_plain (record_form (codes "wide") (wide_fields (length net.names) (reactions net))) (small_record (codes "wide") (index ∷ basis.list)) (wide_row net w) (refl, wide_numbers_fit (length net.names) (reactions net) index basis.list f), tt)

-- ---- the part

pub parts_is_answered : IsAnswered part meant
parts_is_answered = record {
  back = λ net n ls y w h. lines_back net n ls y h;
  on = lines_on;
  plain = records_plain;
  goes_on = lines_no_end;
  title = (plain_is_line (codes "crn part parts 1") refl, omega arith);
  end_known = in_by_test (codes "end") words refl;
}
