-- The records of answers, block by block: which of them are no cut leaves, and how they are written one after another.
use Rattle.crn_ctext.proofs.Prelude.{slice_get, take_all, ◌≡◌, ℕ, zero, suc, ◌+◌, ◌-◌, ◌<◌, Bool, true, false, List, [], ◌∷◌, ◌++◌, length, map, take, get_or, refl, sym, ap, ◌∙◌, append_assoc, add-one, arith, AllByRecursion, flat_map, append-nil, Question, Q1, number, built, numbered, Verdict, RankProof, Proof, Answer, Record, Shapes, head_of, head_with, verdict_records, later_records, rank_records, side_records, proof_records, proof_nodes, records_below, records, small_record, record_lines, written, one_word, shapes_with, leaves_after, headings, block, blocks, question_at, head_words, head_numbers, before_one, all_append}
use Rattle.std.proofs.Common.{Some, ℤ, codes}
use Rattle.crn_cert.specs.declared.answer.Verdict.TheVariants.{Classes, Strong, Rank, YesVec, YesSignal, NoVec, NoCycle, NoPair, Plane}
use Rattle.crn_cert.specs.declared.answer.Proof.TheVariants as proof
use Rattle.crn_ctext.proofs.WrittenLines.{head_is, lines_append, element_at}
use Rattle.crn_ctext.proofs.WrittenLeaves.{IsPlain, leaves_append, written_lines, plain_written, plain_leaves}

-- ---- records that are no cut leaves

plain_with : (q : Question) (words : List (List ℕ)) (numbers : List ℤ) → IsPlain (head_with q words numbers)
plain_with Q1 words numbers = refl
plain_with q words numbers = refl

plain_head : (q : Question) (v : Verdict) → IsPlain (head_of q v)
plain_head q v = rw (head_is q v) (plain_with q (head_words v) (head_numbers v))

plain_verdict : (v : Verdict) → AllByRecursion IsPlain (verdict_records v)
plain_verdict (Classes count label) = (refl, tt)
plain_verdict (Strong count terminal label exit) = (refl, tt)
plain_verdict (YesVec vector) = (refl, tt)
plain_verdict (YesSignal turn shelves mu m weights) = (refl, (refl, (refl, (refl, tt))))
plain_verdict (NoVec multipliers) = (refl, tt)
plain_verdict (NoCycle reaction walk) = (refl, tt)
plain_verdict (NoPair alpha weights) = (refl, (refl, tt))
plain_verdict (Plane first second one two) = (refl, (refl, tt))
plain_verdict v = tt

plain_later : (v : Verdict) → AllByRecursion IsPlain (later_records v)
plain_later (Strong count terminal label exit) = (refl, tt)
plain_later v = tt

plain_rows : (w : List ℕ) → ((zs : List ℤ) → IsPlain (one_word w zs)) → (rows : List (List ℤ)) → AllByRecursion IsPlain (map (one_word w) rows)
plain_rows w h [] = tt
plain_rows w h (row ∷ rows) = (h row, plain_rows w h rows)

plain_rank : (p : RankProof) → AllByRecursion IsPlain (rank_records p)
plain_rank p =
    all_append IsPlain (small_record (codes "base") p.base.list ∷ map (one_word (codes "dual")) p.duals) (map (one_word (codes "comb")) p.combs) (refl, plain_rows (codes "dual") (λ zs. refl) p.duals) (plain_rows (codes "comb") (λ zs. refl) p.combs)

plain_ranks : (ps : List RankProof) → AllByRecursion IsPlain (flat_map rank_records ps)
plain_ranks [] = tt
plain_ranks (p ∷ ps) = all_append IsPlain (rank_records p) (flat_map rank_records ps) (plain_rank p) (plain_ranks ps)

plain_sides : (pairs : List ℕ) (rows : List (List ℤ)) → AllByRecursion IsPlain (side_records pairs rows)
plain_sides [] [] = tt
plain_sides (r ∷ pairs) [] = tt
plain_sides [] (row ∷ rows) = (refl, plain_sides [] rows)
plain_sides (r ∷ pairs) (row ∷ rows) = (refl, plain_sides pairs rows)

plain_proof : (s : Shapes) (p : Proof) → AllByRecursion IsPlain (proof_records s p)
plain_proof s (proof.Forest up depth) = (refl, (refl, tt))
plain_proof s (proof.Strong from from_depth to to_depth level) = (refl, (refl, (refl, (refl, (refl, tt)))))
plain_proof s (proof.Back back) = (refl, tt)
plain_proof s (proof.Rank p) = plain_rank p
plain_proof s (proof.Ranks ps) = plain_ranks ps
plain_proof s (proof.Sides rows) = plain_sides s.pair_reactions rows
plain_proof s (proof.Ties rows) = plain_rows (codes "tie") (λ zs. refl) rows
plain_proof s p = tt

plain_headings : (sections : Bool) (q : Question) → AllByRecursion IsPlain (headings sections q)
plain_headings true Q1 = (refl, tt)
plain_headings true q = assumption
plain_headings false q = tt

-- ---- one answer

-- records that are no cut leaves, and then others
plain_then : (leaf : List ℕ) (xs ys : List Record) → AllByRecursion IsPlain xs → record_lines (written leaf (xs ++ ys)) ≡ record_lines xs ++ record_lines (written leaf ys)
plain_then leaf xs ys h =
    written_lines leaf xs ys
    ∙ ap (λ (t : List Record). record_lines t ++ record_lines (written (leaves_after xs leaf) ys)) (plain_written leaf xs h)
    ∙ ap (λ (t : List ℕ). record_lines xs ++ record_lines (written t ys)) (plain_leaves leaf xs h)

leaves_then : (leaf : List ℕ) (xs ys : List Record) → AllByRecursion IsPlain xs → leaves_after (xs ++ ys) leaf ≡ leaves_after ys leaf
leaves_then leaf xs ys h = leaves_append leaf xs ys ∙ ap (λ (t : List ℕ). leaves_after ys t) (plain_leaves leaf xs h)

-- a head and three lists of records
prefix_lines : (h : Record) (vs ps ls : List Record) → record_lines (h ∷ (vs ++ ps ++ ls)) ≡ ((record_lines (h ∷ []) ++ record_lines vs) ++ record_lines ps) ++ record_lines ls
prefix_lines h vs ps ls =
    lines_append ((h ∷ (vs ++ ps))) ls
    ∙ ap (λ (t : List ℕ). t ++ record_lines ls) (lines_append (h ∷ vs) ps ∙ ap (λ (t : List ℕ). t ++ record_lines ps) (lines_append (h ∷ []) vs))

-- a head and what is below it are no cut leaves
pub prefix_plain : (q : Question) (s : Shapes) (a : Answer) → AllByRecursion IsPlain (head_of q a.verdict ∷ records_below s a)
prefix_plain q s a =
    (plain_head q a.verdict, all_append IsPlain (verdict_records a.verdict ++ proof_records s a.proof) (later_records a.verdict) (all_append IsPlain (verdict_records a.verdict) (proof_records s a.proof) (plain_verdict a.verdict) (plain_proof s a.proof)) (plain_later a.verdict))

-- the lines of an answer: its head, what is below it, and its trees
pub answer_lines : (leaf : List ℕ) (q : Question) (s : Shapes) (a : Answer) → record_lines (written leaf (records q s a))
    ≡ (((record_lines (head_of q a.verdict ∷ []) ++ record_lines (verdict_records a.verdict)) ++ record_lines (proof_records s a.proof)) ++ record_lines (later_records a.verdict)) ++ record_lines (written leaf (proof_nodes a.proof))
answer_lines leaf q s a =
    plain_then leaf (head_of q a.verdict ∷ records_below s a) (proof_nodes a.proof) (prefix_plain q s a)
    ∙ ap (λ (t : List ℕ). t ++ record_lines (written leaf (proof_nodes a.proof))) (prefix_lines (head_of q a.verdict) (verdict_records a.verdict) (proof_records s a.proof) (later_records a.verdict))

-- the numbers of the leaves after an answer
pub answer_leaves : (leaf : List ℕ) (q : Question) (s : Shapes) (a : Answer) → leaves_after (records q s a) leaf ≡ leaves_after (proof_nodes a.proof) leaf
answer_leaves leaf q s a = leaves_then leaf (head_of q a.verdict ∷ records_below s a) (proof_nodes a.proof) (prefix_plain q s a)

-- ---- blocks

-- the lines of a block, and the numbers of the leaves after it
pub block_lines : (leaf : List ℕ) (sections : Bool) (pairs : List ℕ) (q : Question) (a : Answer) → record_lines (written leaf (block sections pairs q a)) ≡ record_lines (headings sections q) ++ record_lines (written leaf (records q (shapes_with pairs) a))
block_lines leaf sections pairs q a = plain_then leaf (headings sections q) (records q (shapes_with pairs) a) (plain_headings sections q)

pub block_leaves : (leaf : List ℕ) (sections : Bool) (pairs : List ℕ) (q : Question) (a : Answer) → leaves_after (block sections pairs q a) leaf ≡ leaves_after (records q (shapes_with pairs) a) leaf
block_leaves leaf sections pairs q a = leaves_then leaf (headings sections q) (records q (shapes_with pairs) a) (plain_headings sections q)

blocks_next : (sections : Bool) (pairs : List ℕ) (qs : List Question) (xs : List Answer) (k : ℕ) (q : Question) (a : Answer) → k < length qs → k < length xs
    → blocks sections pairs (take (suc k) qs) (take (suc k) xs) ≡ blocks sections pairs (take k qs) (take k xs) ++ block sections pairs (get_or qs k q) (get_or xs k a)
blocks_next sections pairs [] xs k q a lt lt' = absurd (omega arith)
blocks_next sections pairs (x ∷ qs) [] k q a lt lt' = absurd (omega arith)
blocks_next sections pairs (x ∷ qs) (y ∷ xs) zero q a lt lt' = append-nil (block sections pairs x y)
blocks_next sections pairs (x ∷ qs) (y ∷ xs) (suc k) q a lt lt' =
    ap (λ (t : List Record). block sections pairs x y ++ t) (blocks_next sections pairs qs xs k q a (omega arith) (omega arith)) ∙ sym (append_assoc (block sections pairs x y) _ _)

-- one block more
pub blocks_step : (leaf : List ℕ) (sections : Bool) (pairs : List ℕ) (qs : List Question) (xs : List Answer) (k : ℕ) (q : Question) (a : Answer) → k < length qs → k < length xs
    → record_lines (written leaf (blocks sections pairs (take (k + 1) qs) (take (k + 1) xs)))
    ≡ record_lines (written leaf (blocks sections pairs (take k qs) (take k xs))) ++ record_lines (written (leaves_after (blocks sections pairs (take k qs) (take k xs)) leaf) (block sections pairs (get_or qs k q) (get_or xs k a)))
blocks_step leaf sections pairs qs xs k q a lt lt' =
    rw add-one (ap (λ (t : List Record). record_lines (written leaf t)) (blocks_next sections pairs qs xs k q a lt lt') ∙ written_lines leaf (blocks sections pairs (take k qs) (take k xs)) (block sections pairs (get_or qs k q) (get_or xs k a)))

pub leaves_step : (leaf : List ℕ) (sections : Bool) (pairs : List ℕ) (qs : List Question) (xs : List Answer) (k : ℕ) (q : Question) (a : Answer) → k < length qs → k < length xs
    → leaves_after (blocks sections pairs (take (k + 1) qs) (take (k + 1) xs)) leaf ≡ leaves_after (block sections pairs (get_or qs k q) (get_or xs k a)) (leaves_after (blocks sections pairs (take k qs) (take k xs)) leaf)
leaves_step leaf sections pairs qs xs k q a lt lt' =
    rw add-one (ap (λ (t : List Record). leaves_after t leaf) (blocks_next sections pairs qs xs k q a lt lt') ∙ leaves_append leaf (blocks sections pairs (take k qs) (take k xs)) (block sections pairs (get_or qs k q) (get_or xs k a)))

regroup : (a b c d : List Record) → a ++ ((b ++ c) ++ d) ≡ ((a ++ b) ++ c) ++ d
regroup a b c d = simp append_assoc

blocks_whole : (sections : Bool) (pairs : List ℕ) (qs : List Question) (xs : List Answer) (k : ℕ) (q : Question) (a : Answer) → k < length qs → k < length xs
    → (rest : List Record) × (blocks sections pairs qs xs ≡ (blocks sections pairs (take k qs) (take k xs) ++ block sections pairs (get_or qs k q) (get_or xs k a)) ++ rest)
blocks_whole sections pairs [] xs k q a lt lt' = absurd (omega arith)
blocks_whole sections pairs (x ∷ qs) [] k q a lt lt' = absurd (omega arith)
blocks_whole sections pairs (x ∷ qs) (y ∷ xs) zero q a lt lt' = (blocks sections pairs qs xs, refl)
blocks_whole sections pairs (x ∷ qs) (y ∷ xs) (suc k) q a lt lt' =
    let h = blocks_whole sections pairs qs xs k q a (omega arith) (omega arith) in
    (h.0, ap (λ (t : List Record). block sections pairs x y ++ t) h.1 ∙ regroup (block sections pairs x y) _ _ h.0)

-- the lines of the blocks before one, its own, and more
pub blocks_lines : (leaf : List ℕ) (sections : Bool) (pairs : List ℕ) (qs : List Question) (xs : List Answer) (k : ℕ) (q : Question) (a : Answer) → k < length qs → k < length xs
    → (rest : List ℕ) × (record_lines (written leaf (blocks sections pairs qs xs))
    ≡ (record_lines (written leaf (blocks sections pairs (take k qs) (take k xs))) ++ record_lines (written (leaves_after (blocks sections pairs (take k qs) (take k xs)) leaf) (block sections pairs (get_or qs k q) (get_or xs k a)))) ++ rest)
blocks_lines leaf sections pairs qs xs k q a lt lt' =
    let h = blocks_whole sections pairs qs xs k q a lt lt' in
    let done = blocks sections pairs (take k qs) (take k xs) in
    let here = block sections pairs (get_or qs k q) (get_or xs k a) in
    (record_lines (written (leaves_after (done ++ here) leaf) h.0), ap (λ (t : List Record). record_lines (written leaf t)) h.1 ∙ written_lines leaf (done ++ here) h.0 ∙ ap (λ (t : List ℕ). t ++ record_lines (written (leaves_after (done ++ here) leaf) h.0)) (written_lines leaf done here))

-- further questions have no answers
pub blocks_short : (sections : Bool) (pairs : List ℕ) (qs : List Question) (xs : List Answer) → blocks sections pairs (take (length xs) qs) xs ≡ blocks sections pairs qs xs
blocks_short sections pairs [] [] = refl
blocks_short sections pairs (q ∷ qs) (a ∷ xs) = ap (λ (t : List Record). block sections pairs q a ++ t) (blocks_short sections pairs qs xs)
blocks_short sections pairs qs xs = refl

-- ---- one round of the loop over answers

-- the question of the number at a place
pub at_question : (k n : ℕ) → n ≡ number (get_or built (k + 1 - 1) Q1) → question_at n ≡ get_or built k Q1
at_question k n e = ap question_at e ∙ numbered (get_or built (k + 1 - 1) Q1) ∙ ap (λ (j : ℕ). get_or built j Q1) (before_one k)

at_answer : (xs : List Answer) (k : ℕ) (a : Answer) → slice_get xs (k + 1 - 1) ≡ Some a → (k < length xs) × (get_or xs k a ≡ a)
at_answer xs k a e = element_at xs k a (ap (λ (j : ℕ). slice_get xs j) (sym (before_one k)) ∙ e)

-- what is written of the answers, one block more
pub one_more : (leaf rest : List ℕ) (sections : Bool) (pairs : List ℕ) (qs : List Question) (xs : List Answer) (k : ℕ) (q : Question) (a : Answer) → k < length qs → q ≡ get_or qs k Q1 → slice_get xs (k + 1 - 1) ≡ Some a → rest ≡ leaves_after (blocks sections pairs (take k qs) (take k xs)) leaf
    → record_lines (written leaf (blocks sections pairs (take (k + 1) qs) (take (k + 1) xs))) ≡ record_lines (written leaf (blocks sections pairs (take k qs) (take k xs))) ++ record_lines (written rest (block sections pairs q a))
one_more leaf rest sections pairs qs xs k q a few here e f =
    let at = at_answer xs k a e in
    let done = record_lines (written leaf (blocks sections pairs (take k qs) (take k xs))) in
    blocks_step leaf sections pairs qs xs k Q1 a few at.0
    ∙ ap (λ (r : List ℕ). done ++ record_lines (written r (block sections pairs (get_or qs k Q1) (get_or xs k a)))) (sym f)
    ∙ ap (λ (o : Question). done ++ record_lines (written rest (block sections pairs o (get_or xs k a)))) (sym here)
    ∙ ap (λ (x : Answer). done ++ record_lines (written rest (block sections pairs q x))) at.1

-- the numbers of the leaves after it
pub leaves_more : (leaf rest : List ℕ) (sections : Bool) (pairs : List ℕ) (qs : List Question) (xs : List Answer) (k : ℕ) (q : Question) (a : Answer) → k < length qs → q ≡ get_or qs k Q1 → slice_get xs (k + 1 - 1) ≡ Some a → rest ≡ leaves_after (blocks sections pairs (take k qs) (take k xs)) leaf
    → leaves_after (block sections pairs q a) rest ≡ leaves_after (blocks sections pairs (take (k + 1) qs) (take (k + 1) xs)) leaf
leaves_more leaf rest sections pairs qs xs k q a few here e f =
    let at = at_answer xs k a e in
    sym (leaves_step leaf sections pairs qs xs k Q1 a few at.0
    ∙ ap (λ (r : List ℕ). leaves_after (block sections pairs (get_or qs k Q1) (get_or xs k a)) r) (sym f)
    ∙ ap (λ (o : Question). leaves_after (block sections pairs o (get_or xs k a)) rest) (sym here)
    ∙ ap (λ (x : Answer). leaves_after (block sections pairs q x) rest) at.1)

-- and what is left to write
pub one_of : (leaf rest : List ℕ) (sections : Bool) (pairs : List ℕ) (qs : List Question) (xs : List Answer) (k : ℕ) (q : Question) (a : Answer) → k < length qs → q ≡ get_or qs k Q1 → slice_get xs (k + 1 - 1) ≡ Some a → rest ≡ leaves_after (blocks sections pairs (take k qs) (take k xs)) leaf
    → (more : List ℕ) × (record_lines (written leaf (blocks sections pairs qs xs)) ≡ (record_lines (written leaf (blocks sections pairs (take k qs) (take k xs))) ++ record_lines (written rest (block sections pairs q a))) ++ more)
one_of leaf rest sections pairs qs xs k q a few here e f =
    let at = at_answer xs k a e in
    let done = record_lines (written leaf (blocks sections pairs (take k qs) (take k xs))) in
    let h = blocks_lines leaf sections pairs qs xs k Q1 a few at.0 in (
      h.0,
      h.1
          ∙ ap (λ (r : List ℕ). (done ++ record_lines (written r (block sections pairs (get_or qs k Q1) (get_or xs k a)))) ++ h.0) (sym f)
          ∙ ap (λ (o : Question). (done ++ record_lines (written rest (block sections pairs o (get_or xs k a)))) ++ h.0) (sym here)
          ∙ ap (λ (x : Answer). (done ++ record_lines (written rest (block sections pairs q x))) ++ h.0) at.1,
    )

-- all answers
pub all_done : (leaf : List ℕ) (sections : Bool) (pairs : List ℕ) (qs : List Question) (xs : List Answer) (k : ℕ) → k ≡ length xs
    → record_lines (written leaf (blocks sections pairs qs xs)) ≡ record_lines (written leaf (blocks sections pairs (take k qs) (take k xs)))
all_done leaf sections pairs qs xs k e =
    ap (λ (t : List Record). record_lines (written leaf t)) (sym (blocks_short sections pairs qs xs) ∙ ap (λ (t : List Answer). blocks sections pairs (take (length xs) qs) t) (sym (take_all (length xs) xs (omega arith))) ∙ ap (λ (n : ℕ). blocks sections pairs (take n qs) (take n xs)) (sym e))
