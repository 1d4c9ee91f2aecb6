-- The lines of a network one after another, as steps of a document's course, and the text that they are.
use Rattle.crn_reading.proofs.Prelude.{◌≡◌, ◌++◌, ◌∷◌, [], ◌∙◌, ◌⊎◌, inl, inr, ℕ, suc, Bool, true, false, List, Option, sym, ap, subst, Result, Ok, append-nil, SourceSeen, IsLine, KeptLines, Course, Give, Gives, due, ◌>>=◌, asks_lines, ended, StepGives, AreAdded, HasLongLine, IsAddedLine, IsLongLine, StepIs, Reading, CheckStop}
use Rattle.std.proofs.lemmas.List.{append_assoc}
use Rattle.crn_reading.proofs.Steps.{step_gives, step_map, step_then_is}

-- what follows the first of several lines
abbrev pub lines_after : ℕ → List ℕ → Course (List (List ℕ))
lines_after n line = asks_lines n >>= (λ lines. Give (line ∷ lines))

-- what is said of the first line and those after it is said of all
pub first_line : (P : Course (List (List ℕ)) → Type 0) (count n : ℕ) → count ≡ suc n → P (due false >>= lines_after n) → P (asks_lines count)
unfolding asks_lines
first_line P count n same p = rw same p

-- no lines
pub no_lines : (count : ℕ) (was : Bool) (text : List ℕ) (at : Reading) (seen : SourceSeen) → count ≡ 0
    → StepIs (asks_lines count) (λ (t : Unit {0}) (ls : List (List ℕ)). AreAdded was was text text ls) (Ok tt) at at seen seen
unfolding asks_lines
no_lines count was text at seen none = rw none (step_gives [] (λ (t : Unit {0}) (ls : List (List ℕ)). AreAdded was was text text ls) tt at seen (λ e. inl e, λ e. (e, sym (append-nil text))))

-- a line that is due has no LF in it
pub line_of_due : (line : List ℕ) (n m : ℕ) (old new : KeptLines) (left after : Option (List ℕ)) → StepGives (due false) line n m old new left after → IsLine line
unfolding Gives
line_of_due line n m old new left after given = let g = given.gives [] in subst IsLine g.3.0 g.2.whole

-- a line that is kept, and then the others
kept_then : (was between now : Bool) (a b c line : List ℕ) (ls : List (List ℕ)) → IsLine line → IsAddedLine was between a b line → AreAdded between now b c ls → AreAdded was now a c (line ∷ ls)
kept_then was between now a b c line ls is kept more = (
  λ e. elim (more.0 e) as (λ _. (was ≡ true) ⊎ (IsLongLine line ⊎ HasLongLine ls)) [
    | inl before ↦ elim (kept.0 before) as (λ _. (was ≡ true) ⊎ (IsLongLine line ⊎ HasLongLine ls)) [ inl first ↦ inl first | inr long ↦ inr (inl (is, long)) ]
    | inr later ↦ inr (inr later)
  ],
  λ e.
      let later = more.1 e in
      let here = kept.1 later.0 in (
        here.0,
        later.1 ∙ ap (λ (x : List ℕ). x ++ ended ls) here.1 ∙ ap (λ (x : List ℕ). x ++ ended ls) (append_assoc a line (10 ∷ [])) ∙ append_assoc a (line ++ 10 ∷ []) (ended ls),
      ),
)

-- one line, and then the others
pub lines_then : (count n : ℕ) (was between now : Bool) (line a b c : List ℕ) (result : Result (Unit {0}) CheckStop) (old mid new : Reading) (before middle after : SourceSeen)
    → count ≡ suc n → IsAddedLine was between a b line
    → StepGives (due false) line old.line mid.line old.lines mid.lines before.left middle.left → middle.faults ≡ before.faults
    → StepIs (asks_lines n) (λ (t : Unit {0}) (ls : List (List ℕ)). AreAdded between now b c ls) result mid new middle after
    → StepIs (asks_lines count) (λ (t : Unit {0}) (ls : List (List ℕ)). AreAdded was now a c ls) result old new before after
lines_then count n was between now line a b c result old mid new before middle after same kept given quiet rest =
    first_line (λ d. StepIs d (λ (t : Unit {0}) (ls : List (List ℕ)). AreAdded was now a c ls) result old new before after) count n same
    (step_then_is (due false) (lines_after n) line (λ (t : Unit {0}) (ls : List (List ℕ)). AreAdded was now a c ls) result old mid new before middle after given quiet
    (step_map (asks_lines n) (λ (ls : List (List ℕ)). line ∷ ls) (λ (t : Unit {0}) (ls : List (List ℕ)). AreAdded between now b c ls) (λ (t : Unit {0}) (ls : List (List ℕ)). AreAdded was now a c ls) result mid new middle after
    (λ t ls is. kept_then was between now a b c line ls (line_of_due line old.line mid.line old.lines mid.lines before.left middle.left given) kept is) rest))
