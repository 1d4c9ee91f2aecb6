-- What a report reads of formed verdicts is inside their lists and the network.
use Rattle.crn_render.proofs.Prelude.{◌≡◌, ◌≤◌, ◌<◌, ◌+◌, ◌-◌, ℕ, zero, suc, List, [], ◌∷◌, ◌++◌, length, get_or, sym, ap, ap₂, arith, ◌∙◌, refl, take, drop, take_all, add-one, Some, slice_get, get_or_from_slice_get, flat_map, zip, get_or-zip, length-zip, flat_map_step, flat_map_whole, KeptInts, KeptNums, Net, built, tight, IsFormedVerdict, AreFormedVerdicts, numbered, Earlier, Question, number, Q1, Q2, Q3, Q4, Q11, Q14, Q15, Verdict, Classes, Strong, NoReaction, NoCycle, NoPair, NotApplicable, Unknown, question_at, IsReadable, question_lines, all_lines, one_if_open, open_count}

-- ---- one verdict

classes_readable : (net : Net) (earlier : Earlier) (q : Question) (count : ℕ) (label : KeptNums) → IsFormedVerdict net earlier q (Classes count label) → IsReadable net (Classes count label)
classes_readable net earlier Q1 count label p = p.1.long
classes_readable net earlier q count label p = absurd p.0

strong_readable : (net : Net) (earlier : Earlier) (q : Question) (count : ℕ) (terminal : ℕ) (label : KeptNums) (exit : KeptNums) → IsFormedVerdict net earlier q (Strong count terminal label exit) → IsReadable net (Strong count terminal label exit)
strong_readable net earlier Q2 count terminal label exit p = (p.1.0.long, omega (arith, p.1.1.long))
strong_readable net earlier q count terminal label exit p = absurd p.0

reaction_readable : (net : Net) (earlier : Earlier) (q : Question) (r : ℕ) → IsFormedVerdict net earlier q (NoReaction r) → IsReadable net (NoReaction r)
reaction_readable net earlier Q3 r p = p.0.0
reaction_readable net earlier Q4 r p = p.0.0
reaction_readable net earlier q r p = absurd p.0

cycle_readable : (net : Net) (earlier : Earlier) (q : Question) (r : ℕ) (walk : KeptNums) → IsFormedVerdict net earlier q (NoCycle r walk) → IsReadable net (NoCycle r walk)
cycle_readable net earlier Q11 r walk p = p.1.each
cycle_readable net earlier q r walk p = absurd p.0

pair_readable : (net : Net) (earlier : Earlier) (q : Question) (alpha : KeptInts) (weights : KeptInts) → IsFormedVerdict net earlier q (NoPair alpha weights) → IsReadable net (NoPair alpha weights)
pair_readable net earlier Q14 alpha weights p = p.1.1
pair_readable net earlier Q15 alpha weights p = p.1.1
pair_readable net earlier q alpha weights p = absurd p.0

-- what a report reads of a formed verdict is inside its lists and the network
readable : (net : Net) (earlier : Earlier) (q : Question) (v : Verdict) → IsFormedVerdict net earlier q v → IsReadable net v
readable net earlier q (Classes count label) p = classes_readable net earlier q count label p
readable net earlier q (Strong count terminal label exit) p = strong_readable net earlier q count terminal label exit p
readable net earlier q (NoReaction r) p = reaction_readable net earlier q r p
readable net earlier q (NoCycle r walk) p = cycle_readable net earlier q r walk p
readable net earlier q (NoPair alpha weights) p = pair_readable net earlier q alpha weights p
readable net earlier q v p = tt

-- ---- all verdicts

-- there is a verdict on each question
pub verdicts_count : (net : Net) (earlier : Earlier) (qs : List Question) (vs : List Verdict) → AreFormedVerdicts net earlier qs vs → length vs ≡ length qs
verdicts_count net earlier [] [] p = refl
verdicts_count net earlier [] (v ∷ vs) p = absurd p
verdicts_count net earlier (q ∷ qs) [] p = absurd p
verdicts_count net earlier (q ∷ qs) (v ∷ vs) p = ap suc (verdicts_count net (earlier ++ (q, tight v) ∷ []) qs vs p.1)

-- each verdict of formed ones is readable
pub all_readable : (net : Net) (earlier : Earlier) (qs : List Question) (vs : List Verdict) (i : ℕ) → AreFormedVerdicts net earlier qs vs → i < length vs → IsReadable net (get_or vs i NotApplicable)
all_readable net earlier [] [] i p lt = absurd (omega arith)
all_readable net earlier [] (v ∷ vs) i p lt = absurd p
all_readable net earlier (q ∷ qs) [] i p lt = absurd p
all_readable net earlier (q ∷ qs) (v ∷ vs) zero p lt = readable net earlier q v p.0
all_readable net earlier (q ∷ qs) (v ∷ vs) (suc i) p lt = all_readable net (earlier ++ (q, tight v) ∷ []) qs vs i p.1 (omega arith)

-- the verdict at a place counted from 1
pub got_here : (vs : List Verdict) (place : ℕ) (v : Verdict) → slice_get vs (place + 1 - 1) ≡ Some v → get_or vs place NotApplicable ≡ v
got_here vs place v e =
    let back : place + 1 - 1 ≡ place = omega arith in
    get_or_from_slice_get vs place v NotApplicable (rw back at e)

-- ---- the questions

-- the question of the number at a place
question_is : (place asked : ℕ) → asked ≡ number (get_or built (place + 1 - 1) Q1) - 1 → get_or built place Q1 ≡ question_at asked
question_is place asked e =
    let back : place + 1 - 1 ≡ place = omega arith in
    sym (ap question_at e ∙ numbered (get_or built (place + 1 - 1) Q1) ∙ ap (λ (j : ℕ). get_or built j Q1) back)

-- a verdict that is got, with its question
asked_at : (vs : List Verdict) (place asked : ℕ) (v : Verdict) → asked ≡ number (get_or built (place + 1 - 1) Q1) - 1 → place < length built → length vs ≡ length built → get_or vs place NotApplicable ≡ v → get_or (zip built vs) place (Q1, NotApplicable) ≡ (question_at asked, v)
asked_at vs place asked v e lt same is = get_or-zip built vs place (Q1, NotApplicable) lt (omega (arith, same)) ∙ ap₂ (λ (q : Question) (x : Verdict). (q, x)) (question_is place asked e) is

zip_count : (vs : List Verdict) → length vs ≡ length built → length (zip built vs) ≡ length built
zip_count vs same = omega (arith, length-zip built vs)

-- the lines of one question more
pub questions_step : (net : Net) (vs : List Verdict) (place asked : ℕ) (v : Verdict) → asked ≡ number (get_or built (place + 1 - 1) Q1) - 1 → place < length built → length vs ≡ length built → get_or vs place NotApplicable ≡ v
    → flat_map (question_lines net) (take (place + 1) (zip built vs)) ≡ flat_map (question_lines net) (take place (zip built vs)) ++ question_lines net (question_at asked, v)
questions_step net vs place asked v e lt same is =
    flat_map_step (question_lines net) (zip built vs) place (Q1, NotApplicable) (omega (arith, zip_count vs same)) ∙ ap (λ (a : Question × Verdict). flat_map (question_lines net) (take place (zip built vs)) ++ question_lines net a) (asked_at vs place asked v e lt same is)

-- the lines of the questions before one, of that one, and of those after it
pub questions_whole : (net : Net) (vs : List Verdict) (place asked : ℕ) (v : Verdict) → asked ≡ number (get_or built (place + 1 - 1) Q1) - 1 → place < length built → length vs ≡ length built → get_or vs place NotApplicable ≡ v
    → all_lines net built vs ≡ (flat_map (question_lines net) (take place (zip built vs)) ++ question_lines net (question_at asked, v)) ++ flat_map (question_lines net) (drop (suc place) (zip built vs))
questions_whole net vs place asked v e lt same is =
    flat_map_whole (question_lines net) (zip built vs) place (Q1, NotApplicable) (omega (arith, zip_count vs same))
    ∙ ap (λ (a : Question × Verdict). (flat_map (question_lines net) (take place (zip built vs)) ++ question_lines net a) ++ flat_map (question_lines net) (drop (suc place) (zip built vs))) (asked_at vs place asked v e lt same is)

-- the lines of all questions
pub questions_all : (vs : List Verdict) (place : ℕ) → length vs ≡ length built → length built ≤ place → take place (zip built vs) ≡ zip built vs
questions_all vs place same le = take_all place (zip built vs) (omega (arith, zip_count vs same))

-- ---- open questions

open_more : (vs : List Verdict) (i : ℕ) → i < length vs → open_count (take (suc i) vs) ≡ open_count (take i vs) + one_if_open (get_or vs i NotApplicable)
open_more [] i lt = absurd (omega arith)
open_more (v ∷ vs) zero lt = omega arith
open_more (v ∷ vs) (suc i) lt = omega (arith, open_more vs i (omega arith))

-- one question more
pub open_step : (vs : List Verdict) (i : ℕ) (v : Verdict) → i < length vs → get_or vs i NotApplicable ≡ v → open_count (take (i + 1) vs) ≡ open_count (take i vs) + one_if_open v
open_step vs i v lt is = rw (add-one, ← is) (open_more vs i lt)

-- a question counts at most once
pub one_or_none : (v : Verdict) → one_if_open v ≤ 1
one_or_none (Unknown gap) = omega arith
one_or_none v = omega arith
