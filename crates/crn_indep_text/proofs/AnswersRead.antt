-- The lines of an answer, as they are read one after another.
use Rattle.crn_indep_text.proofs.Prelude.{◌≡◌, ◌≤◌, ◌+◌, ◌-◌, ◌⊎◌, ℕ, suc, List, [], ◌∷◌, length, refl, sym, ap, ap₂, subst, ◌∙◌, inl, inr, arith, Result, Ok, Err, ℤ, pos, false, min, codes, bytes_eq, length-range_with_len, Net, KeptNums, SourceSeen, RankProof, AreFreeRows, IsRankProof, Record, Form, Fits, record_form, Course, Give, ◌>>=◌, either, word_of, first_number, IsOneOf, one_word, small_record, asks_part, StepGives, one_back, record_is, wide_fields, wide_numbers, CanRead, StepIs, StopIs, IsPartSaid, Reading, CheckStop, Rejected, NoMemory, IsGiven, find, placed, step_gives, step_then_is, stop_first, stops_here, tests_fail, tests_give, all_reactions, IsProofForm, IsShown, IsShownForm, FailsShown, reactions, part_ranks, greatest, words, first_forms, base_forms, dual_forms, comb_forms, label_forms, up_forms, depth_forms, Seen, naturals, proof_of, split_seen, open_seen, asks_rows, asks_shown, asks_links, asks_proof, asks_split, asks_rest, asks_decomposition, PartsSeen, AreOfRow, JudgesLines, ReadsProof, ReadsRows, ReadsSeen}
use Rattle.std.specs.Prelude.{Bool, true}
use Rattle.crn_indep_text.proofs.Answered.{small_back, rising_back, proof_formed}
use Rattle.crn_indep_text.proofs.Tested.{shown_gives, shown_fails}

-- what is answered, and the number of the line that is due next
abbrev pub Says : (line : ℕ) → PartsSeen → ℕ × Seen → Type 0
Says line seen y = y ≡ (line, record { undecided = seen.undecided; ranks = seen.ranks.list })

-- ---- a rank proof

abbrev after_duals : Net → ℕ → ℕ → Record → List (List ℤ) → Course RankProof
after_duals net n rank base duals = asks_rows (n + 1 + rank) (comb_forms rank) (reactions net - rank) >>= (λ combs. Give (proof_of (naturals base) duals combs))

abbrev after_base : Net → ℕ → ℕ → Record → Course RankProof
after_base net n rank base = asks_rows (n + 1) (dual_forms net) rank >>= (λ duals. after_duals net n rank base duals)

pub proof_stop : (net : Net) (rank : ℕ) (e : CheckStop) (old : Reading) (before now : SourceSeen) → StopIs (asks_part words old.line (base_forms net rank)) e old before now → StopIs (asks_proof net old.line rank) e old before now
proof_stop net rank e old before now s = stop_first (asks_part words old.line (base_forms net rank)) (after_base net old.line rank) e old before now s

-- the base was read, and this is what follows
base_then : (net : Net) (rank : ℕ) (r : Record) (result : Result RankProof CheckStop) (Says : RankProof → RankProof → Type 0) (old mid new : Reading) (before between now : SourceSeen) → IsGiven words (base_forms net rank) r old mid before between → mid.line ≡ old.line + 1
    → StepIs (asks_rows mid.line (dual_forms net) rank >>= (λ duals. after_duals net old.line rank r duals)) Says result mid new between now → StepIs (asks_proof net old.line rank) Says result old new before now
base_then net rank r result Says old mid new before between now s line t =
    step_then_is (asks_part words old.line (base_forms net rank)) (after_base net old.line rank) r Says result old mid new before between now s.0 s.1
    (subst (λ (n : ℕ). StepIs (asks_rows n (dual_forms net) rank >>= (λ duals. after_duals net old.line rank r duals)) Says result mid new between now) line t)

abbrev ProofSays : Net → ℕ → RankProof → RankProof → Type 0
ProofSays net rank proof given = (given ≡ proof) × IsRankProof net (all_reactions net) rank proof

pub duals_stop : (net : Net) (rank : ℕ) (r : Record) (e : CheckStop) (old mid : Reading) (before between now : SourceSeen) → IsGiven words (base_forms net rank) r old mid before between → mid.line ≡ old.line + 1
    → StopIs (asks_rows mid.line (dual_forms net) rank) e mid between now → StopIs (asks_proof net old.line rank) e old before now
duals_stop net rank r e old mid before between now s line t =
    base_then net rank r (Err e) (ProofSays net rank) old mid mid before between now s line (stop_first (asks_rows mid.line (dual_forms net) rank) (λ duals. after_duals net old.line rank r duals) e mid between now t)

-- the duals were read too
duals_then : (net : Net) (rank : ℕ) (r : Record) (duals : List (List ℤ)) (result : Result RankProof CheckStop) (Says : RankProof → RankProof → Type 0) (old mid next new : Reading) (before between then now : SourceSeen) → IsGiven words (base_forms net rank) r old mid before between → mid.line ≡ old.line + 1
    → StepGives (asks_rows mid.line (dual_forms net) rank) duals mid.line next.line mid.lines next.lines between.left then.left → then.faults ≡ between.faults → next.line ≡ mid.line + rank
    → StepIs (asks_rows next.line (comb_forms rank) (reactions net - rank) >>= (λ combs. Give (proof_of (naturals r) duals combs))) Says result next new then now → StepIs (asks_proof net old.line rank) Says result old new before now
duals_then net rank r duals result Says old mid next new before between then now s line d same lines t =
    base_then net rank r result Says old mid new before between now s line
    (step_then_is (asks_rows mid.line (dual_forms net) rank) (λ duals. after_duals net old.line rank r duals) duals Says result mid next new between then now d same
    (subst (λ (n : ℕ). StepIs (asks_rows n (comb_forms rank) (reactions net - rank) >>= (λ combs. Give (proof_of (naturals r) duals combs))) Says result next new then now) (lines ∙ ap (λ (n : ℕ). n + rank) line) t))

combs_stop : (net : Net) (rank : ℕ) (r : Record) (duals : List (List ℤ)) (e : CheckStop) (old mid next : Reading) (before between then now : SourceSeen) → IsGiven words (base_forms net rank) r old mid before between → mid.line ≡ old.line + 1
    → StepGives (asks_rows mid.line (dual_forms net) rank) duals mid.line next.line mid.lines next.lines between.left then.left → then.faults ≡ between.faults → next.line ≡ mid.line + rank
    → StopIs (asks_rows next.line (comb_forms rank) (reactions net - rank)) e next then now → StopIs (asks_proof net old.line rank) e old before now
combs_stop net rank r duals e old mid next before between then now s line d same lines t =
    duals_then net rank r duals (Err e) (ProofSays net rank) old mid next next before between then now s line d same lines
    (stop_first (asks_rows next.line (comb_forms rank) (reactions net - rank)) (λ combs. Give (proof_of (naturals r) duals combs)) e next then now t)

-- all lines were read, and the proof is answered
lines_then : (net : Net) (rank : ℕ) (r : Record) (base : KeptNums) (duals combs : List (List ℤ)) (old mid next new : Reading) (before between then now : SourceSeen) → AreOfRow (base_forms net rank) base r → IsGiven words (base_forms net rank) r old mid before between → mid.line ≡ old.line + 1
    → StepGives (asks_rows mid.line (dual_forms net) rank) duals mid.line next.line mid.lines next.lines between.left then.left → then.faults ≡ between.faults → next.line ≡ mid.line + rank → AreFreeRows rank (length net.names) duals
    → StepGives (asks_rows next.line (comb_forms rank) (reactions net - rank)) combs next.line new.line next.lines new.lines then.left now.left → now.faults ≡ then.faults → AreFreeRows (reactions net - rank) (suc rank) combs
    → ReadsProof net rank (Ok (record { base = base; duals = duals; combs = combs })) old new before now
lines_then net rank r base duals combs old mid next new before between then now b s line d same lines free c equal rows =
    let f = rising_back (codes "base") rank (reactions net) r b.form in
    let made : RankProof = record { base = base; duals = duals; combs = combs } in
    let is : proof_of (naturals r) duals combs ≡ made = ap₂ (λ (xs : List ℕ) (k : ℕ). proof_with xs k) (sym b.list) (sym b.spare) in
    duals_then net rank r duals (Ok made) (ProofSays net rank) old mid next new before between then now s line d same lines
    (step_then_is (asks_rows next.line (comb_forms rank) (reactions net - rank)) (λ combs. Give (proof_of (naturals r) duals combs)) combs (ProofSays net rank) (Ok made) next new new then now now c equal
    (step_gives (proof_of (naturals r) duals combs) (ProofSays net rank) made new now (is, subst (IsRankProof net (all_reactions net) rank) is (proof_formed net rank (naturals r) duals combs f.1 f.2 free rows))))
  where
    proof_with : List ℕ → ℕ → RankProof
    proof_with xs k = record { base = record { list = xs; spare = k }; duals = duals; combs = combs }

-- what the calls for the rows answered
pub proof_then : (net : Net) (rank : ℕ) (r : Record) (base : KeptNums) (duals combs : List (List ℤ)) (old mid next new : Reading) (before between then now : SourceSeen) → AreOfRow (base_forms net rank) base r → IsGiven words (base_forms net rank) r old mid before between → mid.line ≡ old.line + 1
    → ReadsRows (dual_forms net) (length net.names) rank [] duals (Ok tt) mid next between then → next.line ≡ mid.line + rank
    → ReadsRows (comb_forms rank) (suc rank) (reactions net - rank) [] combs (Ok tt) next new then now
    → ReadsProof net rank (Ok (record { base = base; duals = duals; combs = combs })) old new before now
proof_then net rank r base duals combs old mid next new before between then now b s line d lines c =
    subst (λ (xs : List (List ℤ)). ReadsProof net rank (Ok (record { base = base; duals = xs; combs = combs })) old new before now) (sym d.1.0)
    (subst (λ (xs : List (List ℤ)). ReadsProof net rank (Ok (record { base = base; duals = d.0; combs = xs })) old new before now) (sym c.1.0)
    (lines_then net rank r base d.0 c.0 old mid next new before between then now b s line d.2 d.3 lines d.1.1 c.2 c.3 c.1.1))

pub combs_stop_after : (net : Net) (rank : ℕ) (r : Record) (duals : List (List ℤ)) (e : CheckStop) (old mid next : Reading) (before between then now : SourceSeen) → IsGiven words (base_forms net rank) r old mid before between → mid.line ≡ old.line + 1
    → ReadsRows (dual_forms net) (length net.names) rank [] duals (Ok tt) mid next between then → next.line ≡ mid.line + rank → StopIs (asks_rows next.line (comb_forms rank) (reactions net - rank)) e next then now → StopIs (asks_proof net old.line rank) e old before now
combs_stop_after net rank r duals e old mid next before between then now s line d lines t = combs_stop net rank r d.0 e old mid next before between then now s line d.2 d.3 lines t

-- how many duals and combinations it has
pub proof_counts : (net : Net) (rank : ℕ) (proof : RankProof) → IsRankProof net (all_reactions net) rank proof → (length proof.duals ≡ rank) × (length proof.combs ≡ length net.reactions - rank)
proof_counts net rank proof p = (p.duals.long, p.combs.long ∙ ap (λ (n : ℕ). n - rank) (length-range_with_len 1 (length net.reactions)))

-- ---- the tests

-- what was seen of a document
abbrev seen_with : Bool → List ℕ → Seen
seen_with b xs = record { undecided = b; ranks = xs }

pub judge_ok : (net : Net) (head : ℕ) (proof : RankProof) (label up depth : List ℕ) (seen : PartsSeen) → IsShown net proof label up depth → seen.undecided ≡ false → seen.ranks.list ≡ part_ranks proof label (greatest label) → JudgesLines net head proof label up depth (Ok seen)
judge_ok net head proof label up depth seen s decided ranks = λ at now can.
    let y : ℕ × Seen = (at.line, split_seen proof label) in
    let is : y ≡ (at.line, seen_with seen.undecided seen.ranks.list) = ap₂ (λ (b : Bool) (xs : List ℕ). (at.line, seen_with b xs)) (sym decided) (sym ranks) in
    step_then_is (asks_shown net head proof label up depth) (λ x. Give y) tt (Says at.line) (Ok seen) at at at now now now
    (tests_give (asks_shown net head proof label up depth) tt at.line at.lines now.left (shown_gives net head proof label up depth s)) refl
    (step_gives y (Says at.line) seen at now is)

judge_stop : (net : Net) (head : ℕ) (proof : RankProof) (label up depth : List ℕ) (e : CheckStop) → ((at : Reading) (now : SourceSeen) → CanRead at → StopIs (asks_shown net head proof label up depth) e at now now) → JudgesLines net head proof label up depth (Err e)
judge_stop net head proof label up depth e s = λ at now can. stop_first (asks_shown net head proof label up depth) (λ x. Give (at.line, split_seen proof label)) e at now now (s at now can)

pub judge_fails : (net : Net) (head : ℕ) (proof : RankProof) (label up depth : List ℕ) (part code : ℕ) → FailsShown net proof label up depth part code → JudgesLines net head proof label up depth (Err (Rejected code (head + part)))
judge_fails net head proof label up depth part code f = judge_stop net head proof label up depth (Rejected code (head + part))
    (λ at now can. (tests_fail (asks_shown net head proof label up depth) at.line (head + part) code at now.left can (λ place. shown_fails net head proof label up depth part code f place), refl))

-- memory ran out after the tests
pub judge_exits : (net : Net) (head : ℕ) (proof : RankProof) (label up depth : List ℕ) (r : Result PartsSeen CheckStop) → (x : CheckStop) × (r ≡ Err x) × (x ≡ NoMemory) → JudgesLines net head proof label up depth r
judge_exits net head proof label up depth r x = subst (λ (q : Result PartsSeen CheckStop). JudgesLines net head proof label up depth q) (sym (x.1 ∙ ap (λ (s : CheckStop). Err s) x.2)) (judge_stop net head proof label up depth NoMemory (λ at now can. (stops_here at now.left can, refl)))

-- the rank is that of the base
pub proof_form : (net : Net) (rank : ℕ) (proof : RankProof) → IsRankProof net (all_reactions net) rank proof → IsProofForm net proof
proof_form net rank proof p = let long = p.long in subst (λ (n : ℕ). IsRankProof net (all_reactions net) n proof) (sym long) p

-- ---- the labels and the links

abbrev after_depth : Net → ℕ → ℕ → RankProof → Record → Record → Record → Course (ℕ × Seen)
after_depth net head n proof label up depth = asks_shown net head proof (naturals label) (naturals up) (naturals depth) >>= (λ x. Give (n + 3, split_seen proof (naturals label)))

abbrev after_up : Net → ℕ → ℕ → RankProof → Record → Record → Course (ℕ × Seen)
after_up net head n proof label up = asks_part words (n + 2) (depth_forms net) >>= (λ depth. after_depth net head n proof label up depth)

abbrev after_label : Net → ℕ → ℕ → RankProof → Record → Course (ℕ × Seen)
after_label net head n proof label = asks_part words (n + 1) (up_forms net) >>= (λ up. after_up net head n proof label up)

pub label_stop : (net : Net) (head : ℕ) (proof : RankProof) (e : CheckStop) (old : Reading) (before now : SourceSeen) → StopIs (asks_part words old.line (label_forms net)) e old before now → StopIs (asks_links net head old.line proof) e old before now
label_stop net head proof e old before now s = stop_first (asks_part words old.line (label_forms net)) (after_label net head old.line proof) e old before now s

label_then : (net : Net) (head : ℕ) (proof : RankProof) (label : Record) (result : Result PartsSeen CheckStop) (old mid new : Reading) (before between now : SourceSeen) → IsGiven words (label_forms net) label old mid before between → mid.line ≡ old.line + 1
    → StepIs (asks_part words mid.line (up_forms net) >>= (λ up. after_up net head old.line proof label up)) (Says new.line) result mid new between now → ReadsSeen (asks_links net head old.line proof) result old new before now
label_then net head proof label result old mid new before between now s line t =
    step_then_is (asks_part words old.line (label_forms net)) (after_label net head old.line proof) label (Says new.line) result old mid new before between now s.0 s.1
    (subst (λ (n : ℕ). StepIs (asks_part words n (up_forms net) >>= (λ up. after_up net head old.line proof label up)) (Says new.line) result mid new between now) line t)

pub up_stop : (net : Net) (head : ℕ) (proof : RankProof) (label : Record) (e : CheckStop) (old mid : Reading) (before between now : SourceSeen) → IsGiven words (label_forms net) label old mid before between → mid.line ≡ old.line + 1
    → StopIs (asks_part words mid.line (up_forms net)) e mid between now → StopIs (asks_links net head old.line proof) e old before now
up_stop net head proof label e old mid before between now s line t =
    label_then net head proof label (Err e) old mid mid before between now s line (stop_first (asks_part words mid.line (up_forms net)) (λ up. after_up net head old.line proof label up) e mid between now t)

up_then : (net : Net) (head : ℕ) (proof : RankProof) (label up : Record) (result : Result PartsSeen CheckStop) (old mid next new : Reading) (before between then now : SourceSeen) → IsGiven words (label_forms net) label old mid before between → mid.line ≡ old.line + 1
    → IsGiven words (up_forms net) up mid next between then → next.line ≡ mid.line + 1 → StepIs (asks_part words next.line (depth_forms net) >>= (λ depth. after_depth net head old.line proof label up depth)) (Says new.line) result next new then now
    → ReadsSeen (asks_links net head old.line proof) result old new before now
up_then net head proof label up result old mid next new before between then now s line u lines t =
    let at : next.line ≡ old.line + 2 = omega (arith, line, lines) in
    label_then net head proof label result old mid new before between now s line
    (step_then_is (asks_part words mid.line (up_forms net)) (λ up. after_up net head old.line proof label up) up (Says new.line) result mid next new between then now u.0 u.1
    (subst (λ (n : ℕ). StepIs (asks_part words n (depth_forms net) >>= (λ depth. after_depth net head old.line proof label up depth)) (Says new.line) result next new then now) at t))

pub depth_stop : (net : Net) (head : ℕ) (proof : RankProof) (label up : Record) (e : CheckStop) (old mid next : Reading) (before between then now : SourceSeen) → IsGiven words (label_forms net) label old mid before between → mid.line ≡ old.line + 1
    → IsGiven words (up_forms net) up mid next between then → next.line ≡ mid.line + 1 → StopIs (asks_part words next.line (depth_forms net)) e next then now → StopIs (asks_links net head old.line proof) e old before now
depth_stop net head proof label up e old mid next before between then now s line u lines t =
    up_then net head proof label up (Err e) old mid next next before between then now s line u lines (stop_first (asks_part words next.line (depth_forms net)) (λ depth. after_depth net head old.line proof label up depth) e next then now t)

pub links_then : (net : Net) (head : ℕ) (proof : RankProof) (label up depth : Record) (result : Result PartsSeen CheckStop) (old mid next new : Reading) (before between then now : SourceSeen) → IsGiven words (label_forms net) label old mid before between → mid.line ≡ old.line + 1
    → IsGiven words (up_forms net) up mid next between then → next.line ≡ mid.line + 1 → IsGiven words (depth_forms net) depth next new then now → new.line ≡ next.line + 1 → CanRead new
    → JudgesLines net head proof (naturals label) (naturals up) (naturals depth) result → ReadsSeen (asks_links net head old.line proof) result old new before now
links_then net head proof label up depth result old mid next new before between then now s line u lines d last can j =
    let at : new.line ≡ old.line + 3 = omega (arith, line, lines, last) in
    up_then net head proof label up result old mid next new before between then now s line u lines
    (step_then_is (asks_part words next.line (depth_forms net)) (λ depth. after_depth net head old.line proof label up depth) depth (Says new.line) result next new new then now now d.0 d.1
    (subst (λ (n : ℕ). StepIs (asks_shown net head proof (naturals label) (naturals up) (naturals depth) >>= (λ x. Give (n, split_seen proof (naturals label)))) (Says new.line) result new new now now) at (j new now can)))

-- the form of what was read
pub links_formed : (net : Net) (rank : ℕ) (proof : RankProof) (label up depth : Record) → 1 ≤ rank → rank ≤ length net.names → rank ≤ length net.reactions → IsRankProof net (all_reactions net) rank proof → IsOneOf (label_forms net) label → IsOneOf (up_forms net) up → IsOneOf (depth_forms net) depth
    → IsShownForm net rank proof (naturals label) (naturals up) (naturals depth)
links_formed net rank proof label up depth some few less p l u d = record {
  rank_is = (some, omega (arith, few, less));
  proof_is = p;
  labels_are = (small_back (codes "label") (reactions net) 1 (reactions net) label l).1;
  up_is = (small_back (codes "up") (reactions net) 0 (reactions net) up u).1;
  depth_is = (small_back (codes "depth") (reactions net) 0 (reactions net - 1) depth d).1;
}

-- ---- a decomposition

pub split_stop : (net : Net) (head rank : ℕ) (e : CheckStop) (old : Reading) (before now : SourceSeen) → head + 1 ≡ old.line → StopIs (asks_proof net old.line rank) e old before now → StopIs (asks_split net head rank) e old before now
split_stop net head rank e old before now is s = stop_first (asks_proof net (head + 1) rank) (λ proof. asks_links net head (head + 2 + rank + (reactions net - rank)) proof) e old before now
    (subst (λ (n : ℕ). StopIs (asks_proof net n rank) e old before now) (sym is) s)

pub split_then : (net : Net) (head rank : ℕ) (proof given : RankProof) (result : Result PartsSeen CheckStop) (old mid new : Reading) (before between now : SourceSeen) → head + 1 ≡ old.line → given ≡ proof
    → StepGives (asks_proof net old.line rank) given old.line mid.line old.lines mid.lines before.left between.left → between.faults ≡ before.faults → mid.line ≡ old.line + 1 + rank + (reactions net - rank)
    → ReadsSeen (asks_links net head mid.line proof) result mid new between now → ReadsSeen (asks_split net head rank) result old new before now
split_then net head rank proof given result old mid new before between now is same s equal lines t =
    let at : mid.line ≡ head + 2 + rank + (reactions net - rank) = omega (arith, is, lines) in
    step_then_is (asks_proof net (head + 1) rank) (λ proof. asks_links net head (head + 2 + rank + (reactions net - rank)) proof) given (Says new.line) result old mid new before between now
    (subst (λ (n : ℕ). StepGives (asks_proof net n rank) given old.line mid.line old.lines mid.lines before.left between.left) (sym is) s) equal
    (subst (λ (p : RankProof). StepIs (asks_links net head (head + 2 + rank + (reactions net - rank)) p) (Says new.line) result mid new between now) (sym same)
    (subst (λ (n : ℕ). StepIs (asks_links net head n proof) (Says new.line) result mid new between now) at t))

-- ---- the first line

-- what it says, by the place of its word
abbrev pub FirstSaid : Net → ℕ → List ℤ → Record → Type 0
FirstSaid net place read r = ((place ≡ 0) × ((rank : ℕ) × (r ≡ one_word (codes "rank") (pos rank ∷ [])) × (read ≡ pos rank ∷ []) × ((1 ≤ rank) × (rank ≤ min (length net.names) (reactions net)))))
    ⊎ ((place ≡ 1) × (bytes_eq (word_of r) (codes "rank") ≡ false))

open_word : (r q : Record) → r ≡ q → bytes_eq (word_of q) (codes "rank") ≡ false → bytes_eq (word_of r) (codes "rank") ≡ false
open_word r q e o = subst (λ (x : Record). bytes_eq (word_of x) (codes "rank") ≡ false) (sym e) o

pub first_said : (net : Net) (place : ℕ) (read : List ℤ) (r : Record) → IsPartSaid words (first_forms net) place read r → FirstSaid net place read r
unfolding find
first_said net place read r s = by s.form
  where
    at : (w : List ℕ) → word_of r ≡ w → find w words ≡ place
    at w e = placed words (first_forms net) place read r w refl s e

    by : IsOneOf (first_forms net) r → FirstSaid net place read r
    by (form, inl e, f) =
        let k = one_back (codes "rank") 1 (min (length net.names) (reactions net)) r (subst (λ (x : Form). Fits x r) e f) in
        inl (sym (at (codes "rank") (ap word_of k.1)), (k.0, k.1, s.numbers ∙ ap (λ (q : Record). q.numbers) k.1, k.2))
    by (form, inr (inl e), f) =
        let fits : Fits (record_form (codes "wide") (wide_fields (length net.names) (reactions net))) r = subst (λ (x : Form). Fits x r) e f in
        let v = wide_numbers (length net.names) (reactions net) r.numbers fits.1 in
        let is : r ≡ small_record (codes "wide") (v.0 ∷ v.1) = record_is r (codes "wide" ∷ []) _ fits.0 v.2 in
        inr (sym (at (codes "wide") (ap word_of is)), open_word r _ is refl)
    by (form, inr (inr none), f) = absurd none

-- the rank that was read
pub rank_said : (net : Net) (place : ℕ) (read : List ℤ) (r : Record) → place ≡ 0 → IsPartSaid words (first_forms net) place read r → (rank : ℕ) × (r ≡ one_word (codes "rank") (pos rank ∷ [])) × (read ≡ pos rank ∷ []) × ((1 ≤ rank) × (rank ≤ min (length net.names) (reactions net)))
rank_said net place read r zero s = by (first_said net place read r s)
  where
    by : FirstSaid net place read r → (rank : ℕ) × (r ≡ one_word (codes "rank") (pos rank ∷ [])) × (read ≡ pos rank ∷ []) × ((1 ≤ rank) × (rank ≤ min (length net.names) (reactions net)))
    by (inl h) = h.1
    by (inr h) = absurd (omega (arith, zero, h.0))

open_said : (net : Net) (place : ℕ) (read : List ℤ) (r : Record) → (place ≡ 0 → ⊥) → IsPartSaid words (first_forms net) place read r → bytes_eq (word_of r) (codes "rank") ≡ false
open_said net place read r other s = by (first_said net place read r s)
  where
    by : FirstSaid net place read r → bytes_eq (word_of r) (codes "rank") ≡ false
    by (inl h) = absurd (other h.0)
    by (inr h) = h.1

pub answer_stop : (net : Net) (e : CheckStop) (old : Reading) (before now : SourceSeen) → StopIs (asks_part words old.line (first_forms net)) e old before now → StopIs (asks_decomposition net old.line) e old before now
answer_stop net e old before now s = stop_first (asks_part words old.line (first_forms net)) (λ r. asks_rest net old.line r) e old before now s

-- a number of a list of one
pub one_number_is : (a b : ℕ) (xs : List ℤ) → xs ≡ pos a ∷ [] → xs ≡ pos b ∷ [] → a ≡ b
one_number_is a b xs p q = let e : pos a ∷ [] ≡ pos b ∷ [] = sym p ∙ q in cc

-- a rank was read, and this is what follows
pub answer_split : (net : Net) (rank : ℕ) (r : Record) (result : Result PartsSeen CheckStop) (old mid new : Reading) (before between now : SourceSeen) → r ≡ one_word (codes "rank") (pos rank ∷ []) → IsGiven words (first_forms net) r old mid before between
    → ReadsSeen (asks_split net old.line rank) result mid new between now → ReadsSeen (asks_decomposition net old.line) result old new before now
answer_split net rank r result old mid new before between now is s t =
    step_then_is (asks_part words old.line (first_forms net)) (λ q. asks_rest net old.line q) r (Says new.line) result old mid new before between now s.0 s.1
    (subst (λ (q : Record). StepIs (asks_rest net old.line q) (Says new.line) result mid new between now) (sym is) t)

-- a wide vector was read, and nothing follows it
pub answer_open : (net : Net) (place : ℕ) (read : List ℤ) (r : Record) (seen : PartsSeen) (old mid : Reading) (before now : SourceSeen) → (place ≡ 0 → ⊥) → IsPartSaid words (first_forms net) place read r → IsGiven words (first_forms net) r old mid before now → mid.line ≡ old.line + 1
    → seen.undecided ≡ true → seen.ranks.list ≡ [] → ReadsSeen (asks_decomposition net old.line) (Ok seen) old mid before now
answer_open net place read r seen old mid before now other said s line undecided none =
    let is : (old.line + 1, open_seen) ≡ (mid.line, seen_with seen.undecided seen.ranks.list) = ap₂ (λ (n : ℕ) (q : Seen). (n, q)) (sym line) (ap₂ seen_with (sym undecided) (sym none)) in
    step_then_is (asks_part words old.line (first_forms net)) (λ q. asks_rest net old.line q) r (Says mid.line) (Ok seen) old mid mid before now now s.0 s.1
    (subst (λ (b : Bool). StepIs (either b (asks_split net old.line (first_number r.numbers)) (Give (old.line + 1, open_seen))) (Says mid.line) (Ok seen) mid mid now now) (sym (open_said net place read r other said))
    (step_gives (old.line + 1, open_seen) (Says mid.line) seen mid now is))
