-- A call for the next line gives what is due at a place, and its answer has its cause there.
use Rattle.crn_io.proofs.Prelude.{◌≡◌, ◌==◌, ℕ, ◌+◌, ◌-◌, ◌≤◌, ◌<◌, Bool, false, List, [], ◌∷◌, ◌++◌, length, take, Option, Some, None, refl, sym, ap, subst, ◌∙◌, append_assoc, arith, length-append, append-nil, take-append-le, take-take, All-nil, Next, Line, Last, End, LineTooLong, DocumentTooLong, Failed, MAX_LINE, MAX_DOCUMENT, IsLine, Place, IsLineAt, ExceedsDocument, ExceedsLine, LacksLine, HasMore, document_too_long, line_too_long, otherwise, Consumes, KeptLines, NextIs, place, DueIs, EndIs, IsCause}
use Rattle.crn_io.proofs.LineLists.{IsLine-take}
use Rattle.crn_io.proofs.LineEnds.{line_breaks_none, end_is_none}

-- so few bytes exceed no bound
few_exceed_no_document : (at : Place) → at.before + length at.left < MAX_DOCUMENT → ExceedsDocument at → ⊥
few_exceed_no_document at few p = omega (arith, few, p.2, p.4)

few_exceed_no_line : (at : Place) → length at.left ≤ MAX_LINE → ExceedsLine at → ⊥
few_exceed_no_line at few p = omega (arith, few, p.0)

early_exceed_no_document : (at : Place) → at.before + MAX_LINE + 1 < MAX_DOCUMENT → ExceedsDocument at → ⊥
early_exceed_no_document at short p = omega (arith, short, p.1, p.4)

-- a line that is here exceeds no bound
line_no_document : (at : Place) (line : List ℕ) (after : Place) → IsLineAt at line after → ExceedsDocument at → ⊥
line_no_document at line after p d = line_breaks_none at line after 0 29 p (document_too_long d)

line_no_line : (at : Place) (line : List ℕ) (after : Place) → IsLineAt at line after → ExceedsLine at → ⊥
line_no_line at line after p l = line_breaks_none at line after 0 30 p (line_too_long (line_no_document at line after p) l)

-- the bytes that are left are those that were ahead, those that were pulled, and those that are left now
pub all_bytes : (ahead pulled left rest : List ℕ) (before now : Option (List ℕ)) → before ≡ Some left → now ≡ Some rest → Consumes before pulled now → ahead ++ left ≡ (ahead ++ pulled) ++ rest
all_bytes ahead pulled left rest None now shows shown p = absurd cc
all_bytes ahead pulled left rest (Some all) now shows shown p =
    let is : p.0 ≡ rest = let h = p.1 in cc in
    let same : left ≡ pulled ++ rest = let h = p.2 in cc in
    ap (λ (t : List ℕ). ahead ++ t) same ∙ sym (append_assoc ahead pulled rest)

-- the line
line_at : (n : ℕ) (old new : KeptLines) (left rest bytes : List ℕ) → old.ahead ++ left ≡ bytes ++ rest
    → NextIs Line old.taken bytes (Some rest) new → IsLineAt (place n old left) new.line (place (n + 1) new rest)
line_at n old new left rest bytes all q = record {
  left = all ∙ ap (λ (t : List ℕ). t ++ rest) q.0 ∙ append_assoc new.line (10 ∷ new.ahead) rest;
  whole = q.1;
  short = q.2;
  next = refl;
  before = q.3;
  bound = q.4;
}

-- all that is left, if the source has nothing left
whole_left : (ahead left bytes rest : List ℕ) → ahead ++ left ≡ bytes ++ rest → rest ≡ [] → ahead ++ left ≡ bytes
whole_left ahead left bytes rest all none = all ∙ ap (λ (t : List ℕ). bytes ++ t) none ∙ append-nil bytes

-- the last bytes
last_at : (n : ℕ) (old new : KeptLines) (left rest bytes : List ℕ) → old.ahead ++ left ≡ bytes ++ rest
    → NextIs Last old.taken bytes (Some rest) new → IsCause Last (place n old left)
last_at n old new left rest bytes all q =
    let is = whole_left old.ahead left bytes rest all q.5 ∙ q.0 in
    let size : length (old.ahead ++ left) ≡ length new.line = ap length is in
    let more : HasMore (place n old left) = λ e. absurd (let none : length (old.ahead ++ left) ≡ 0 = ap length e in omega (arith, none, size, q.1)) in
    (few_exceed_no_document (place n old left) (omega (arith, size, q.4)), few_exceed_no_line (place n old left) (omega (arith, size, q.3)), subst IsLine (sym is) q.2, more)

-- no bytes
end_at : (n : ℕ) (old new : KeptLines) (left rest bytes : List ℕ) → old.ahead ++ left ≡ bytes ++ rest
    → NextIs End old.taken bytes (Some rest) new → IsCause End (place n old left)
end_at n old new left rest bytes all q = whole_left old.ahead left bytes rest all q.1 ∙ q.0

-- the bound of lines
long_at : (n : ℕ) (old new : KeptLines) (left rest bytes : List ℕ) → old.ahead ++ left ≡ bytes ++ rest
    → NextIs LineTooLong old.taken bytes (Some rest) new → IsCause LineTooLong (place n old left)
long_at n old new left rest bytes all q =
    let same : take (MAX_LINE + 1) (old.ahead ++ left) ≡ take (MAX_LINE + 1) bytes = ap (λ (t : List ℕ). take (MAX_LINE + 1) t) all ∙ take-append-le (MAX_LINE + 1) bytes rest (omega (arith, q.0)) in
    (early_exceed_no_document (place n old left) q.2, (rw all (omega (arith, q.0, length-append bytes rest)), subst IsLine (sym same) q.1))

-- the bound of documents
document_at : (n : ℕ) (old new : KeptLines) (left rest bytes : List ℕ) → old.taken < MAX_DOCUMENT → old.ahead ++ left ≡ bytes ++ rest
    → NextIs DocumentTooLong old.taken bytes (Some rest) new → IsCause DocumentTooLong (place n old left)
document_at n old new left rest bytes lt all q =
    let k = MAX_DOCUMENT - old.taken - 1 in
    let less : k ≤ q.0 = omega (arith, lt, q.4) in
    let prefix : IsLine (take k bytes) = rw (← take-take k q.0 bytes less) (IsLine-take k (take q.0 bytes) q.3) in
    let same : take k (old.ahead ++ left) ≡ take k bytes = ap (λ (t : List ℕ). take k t) all ∙ take-append-le k bytes rest (omega (arith, less, q.2)) in
    (k, omega (arith, less, q.1), rw all (omega (arith, less, q.2, length-append bytes rest)), subst IsLine (sym same) prefix, omega (arith, lt))

-- unless the source failed, the cause of the answer is here
pub cause_is : (answer : Next) (n : ℕ) (old new : KeptLines) (left rest bytes : List ℕ) → old.taken < MAX_DOCUMENT → old.ahead ++ left ≡ bytes ++ rest
    → NextIs answer old.taken bytes (Some rest) new → (answer ≡ Failed → ⊥) → IsCause answer (place n old left)
cause_is Line n old new left rest bytes lt all q sound = (new.line, place (n + 1) new rest, line_at n old new left rest bytes all q)
cause_is Last n old new left rest bytes lt all q sound = last_at n old new left rest bytes all q
cause_is End n old new left rest bytes lt all q sound = end_at n old new left rest bytes all q
cause_is LineTooLong n old new left rest bytes lt all q sound = long_at n old new left rest bytes all q
cause_is DocumentTooLong n old new left rest bytes lt all q sound = document_at n old new left rest bytes lt all q
cause_is Failed n old new left rest bytes lt all q sound = sound refl

-- if a line is due, the answer gives it, or the first test that fails has its code
pub due_is : (answer : Next) (node : Bool) (n : ℕ) (old new : KeptLines) (left rest bytes : List ℕ) → old.taken < MAX_DOCUMENT → old.ahead ++ left ≡ bytes ++ rest
    → NextIs answer old.taken bytes (Some rest) new → DueIs answer node (place n old left) (place (n + 1) new rest) new.line
due_is Line node n old new left rest bytes lt all q = line_at n old new left rest bytes all q
due_is Last node n old new left rest bytes lt all q = let c = last_at n old new left rest bytes all q in otherwise c.0 c.1 c.2
due_is End node n old new left rest bytes lt all q =
    let e = end_at n old new left rest bytes all q in
    let none : length (old.ahead ++ left) ≡ 0 = ap length e in
    let lacks : IsLine (old.ahead ++ left) = subst IsLine (sym e) (All-nil (λ b. (b == 10) ≡ false)) in
    otherwise (few_exceed_no_document (place n old left) (omega (arith, none, lt))) (few_exceed_no_line (place n old left) (omega (arith, none))) lacks
due_is LineTooLong node n old new left rest bytes lt all q = let c = long_at n old new left rest bytes all q in line_too_long c.0 c.1
due_is DocumentTooLong node n old new left rest bytes lt all q = document_too_long (document_at n old new left rest bytes lt all q)
due_is Failed node n old new left rest bytes lt all q = tt

-- if a line is here, something is left
line_has_more : (at : Place) (line : List ℕ) (after : Place) → IsLineAt at line after → HasMore at
line_has_more at line after p = λ e. absurd (let size : length (line ++ 10 ∷ after.left) ≡ 0 = ap length (sym p.left ∙ e) in omega (arith, size, length-append line (10 ∷ after.left)))

-- after the last line, nothing is left, or the first test that fails has the code of the answer
pub end_is : (answer : Next) (n : ℕ) (old new : KeptLines) (left rest bytes : List ℕ) → old.taken < MAX_DOCUMENT → old.ahead ++ left ≡ bytes ++ rest
    → NextIs answer old.taken bytes (Some rest) new → EndIs answer (place n old left)
end_is Line n old new left rest bytes lt all q =
    let at = place n old left in
    let after = place (n + 1) new rest in
    let here : IsLineAt at new.line after = line_at n old new left rest bytes all q in
    otherwise (line_no_document at new.line after here) (line_no_line at new.line after here) (line_has_more at new.line after here)
end_is Last n old new left rest bytes lt all q = let c = last_at n old new left rest bytes all q in otherwise c.0 c.1 c.3
end_is End n old new left rest bytes lt all q = λ more. more (end_at n old new left rest bytes all q)
end_is LineTooLong n old new left rest bytes lt all q = let c = long_at n old new left rest bytes all q in line_too_long c.0 c.1
end_is DocumentTooLong n old new left rest bytes lt all q = document_too_long (document_at n old new left rest bytes lt all q)
end_is Failed n old new left rest bytes lt all q = tt

-- ---- one place is the cause of one answer

none_no_document : (at : Place) → at.left ≡ [] → ExceedsDocument at → ⊥
none_no_document at e p = let none : length at.left ≡ 0 = ap length e in omega (arith, none, p.2)

none_no_line : (at : Place) → at.left ≡ [] → ExceedsLine at → ⊥
none_no_line at e p = let none : length at.left ≡ 0 = ap length e in omega (arith, none, p.0)

line_no_last : (at : Place) → IsCause Line at → LacksLine at → ⊥
line_no_last at p lacks = end_is_none p.0 p.1.left (let e = p.2.left in subst IsLine e lacks)

pub cause_is_one : (at : Place) (answer other : Next) → IsCause answer at → IsCause other at → answer ≡ other
cause_is_one at Line Line p q = refl
cause_is_one at Line Last p q = absurd (line_no_last at p q.2)
cause_is_one at Line End p q = absurd (line_has_more at p.0 p.1 p.2 q)
cause_is_one at Line LineTooLong p q = absurd (line_no_line at p.0 p.1 p.2 q.1)
cause_is_one at Line DocumentTooLong p q = absurd (line_no_document at p.0 p.1 p.2 q)
cause_is_one at Last Line p q = absurd (line_no_last at q p.2)
cause_is_one at Last Last p q = refl
cause_is_one at Last End p q = absurd (p.3 q)
cause_is_one at Last LineTooLong p q = absurd (p.1 q.1)
cause_is_one at Last DocumentTooLong p q = absurd (p.0 q)
cause_is_one at End Line p q = absurd (line_has_more at q.0 q.1 q.2 p)
cause_is_one at End Last p q = absurd (q.3 p)
cause_is_one at End End p q = refl
cause_is_one at End LineTooLong p q = absurd (none_no_line at p q.1)
cause_is_one at End DocumentTooLong p q = absurd (none_no_document at p q)
cause_is_one at LineTooLong Line p q = absurd (line_no_line at q.0 q.1 q.2 p.1)
cause_is_one at LineTooLong Last p q = absurd (q.1 p.1)
cause_is_one at LineTooLong End p q = absurd (none_no_line at q p.1)
cause_is_one at LineTooLong LineTooLong p q = refl
cause_is_one at LineTooLong DocumentTooLong p q = absurd (p.0 q)
cause_is_one at DocumentTooLong Line p q = absurd (line_no_document at q.0 q.1 q.2 p)
cause_is_one at DocumentTooLong Last p q = absurd (q.0 p)
cause_is_one at DocumentTooLong End p q = absurd (none_no_document at q p)
cause_is_one at DocumentTooLong LineTooLong p q = absurd (q.0 p)
cause_is_one at DocumentTooLong DocumentTooLong p q = refl
cause_is_one at Failed other p q = absurd p
cause_is_one at answer Failed p q = absurd q
