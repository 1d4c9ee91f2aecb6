-- Bytes of a document that await a line leave open whether and where there is a fault: with nothing after them no test of a
-- bound fails, and with many bytes and no LF after them one does.
use Rattle.crn_ctext.proofs.Prelude.{◌≡◌, ◌≤◌, ◌<◌, ◌+◌, ◌++◌, ℕ, Bool, true, false, List, [], ◌∷◌, length, refl, sym, subst, inl, inr, arith, append-nil, length-append, Net, MAX_LINE, Place, IsLine, IsBegun, BreaksLine, HasMore, LacksLine, early, beginning, IsLine-append, begun_breaks_last, begun_is_no_line, line_and_more, line_breaks_none, long_breaks, none_ends, built, BadHeader, BadNetwork, Fault, end_form, Course, Give, Line, Test, End, ◌>>=◌, due, find, ends, FailsFirst, IsSettled, none_own, Awaits, cut, asks, asks_blocks, asks_table, asks_lines, lists_of, ReadOf, course, LeavesOpen, meaning, versions}
use Rattle.crn_ctext.proofs.Image.{HasNoEnd, asks_no_end}
use Rattle.crn_ctext.proofs.BlocksWritten.{blocks_no_end, table_no_end}
use Rattle.crn_ctext.proofs.DocumentsRead.{gives_at_once}
use Rattle.crn_ctext.proofs.DocumentsWritten.{taken_no_end}
use Rattle.crn_ctext.proofs.Courses.{first_is_one, same_after}
use Rattle.crn_ctext.proofs.DocumentsGood.{settled}

-- ---- courses that require only at their end that nothing is left

unfoldable EndsLast : {A : Type 0} → Course A → Type 0
EndsLast (Give x) = Unit {0}
EndsLast (Line node next) = (line : List ℕ) → EndsLast (next line)
EndsLast (Test n c X P next) = (x : X) → EndsLast (next x)
EndsLast (End next) = gives_at_once next

ends_last_then : {A B : Type 0} (c : Course A) (f : A → Course B) → HasNoEnd c → ((x : A) → EndsLast (f x)) → EndsLast (c >>= f)
unfolding HasNoEnd EndsLast
ends_last_then (Give x) f e l = l x
ends_last_then (Line node next) f e l = λ line. ends_last_then (next line) f (e line) l
ends_last_then (Test n c X P next) f e l = λ x. ends_last_then (next x) f (e x) l
ends_last_then (End next) f e l = absurd e

none_awaited : {A : Type 0} (c : Course A) (at : Place) → gives_at_once c → Awaits c at → ⊥
unfolding Awaits
none_awaited (Give x) at g p = p
none_awaited (Test n c X P next) at g p = g
none_awaited c at g p = g

none_fails : {A : Type 0} (c : Course A) (at : Place) (n code : ℕ) → gives_at_once c → FailsFirst c at n code → ⊥
unfolding FailsFirst
none_fails (Give x) at n code g p = p
none_fails (Test m c X P next) at n code g p = g
none_fails c at n code g p = g

due_no_end : (node : Bool) → HasNoEnd (due node)
unfolding HasNoEnd
due_no_end node = λ line. tt

find_no_end : (n : ℕ) (fault : Fault) (X : Type 0) (P : X → Type 0) → HasNoEnd (find n fault X P)
unfolding HasNoEnd
find_no_end n fault X P = λ x. tt

ends_last : (read : ReadOf) → EndsLast (ends >>= (λ x. Give read))
unfolding EndsLast
ends_last read = tt

document_ends_last : EndsLast (course meaning versions built)
document_ends_last =
    ends_last_then (due false) _ (due_no_end false) (λ first.
    ends_last_then (find 1 BadHeader ℕ _) _ (find_no_end 1 BadHeader ℕ _) (λ version.
    ends_last_then (due false) _ (due_no_end false) (λ second.
    ends_last_then (find 2 BadNetwork ℕ _) _ (find_no_end 2 BadNetwork ℕ _) (λ count.
    ends_last_then (asks_lines count) _ (taken_no_end count) (λ lines.
    ends_last_then (find (2 + count) BadNetwork Net _) _ (find_no_end (2 + count) BadNetwork Net _) (λ net.
    ends_last_then (asks_table version (3 + count)) _ (table_no_end version (3 + count)) (λ table.
    ends_last_then (asks_blocks meaning version (lists_of table) built _) _ (blocks_no_end version (lists_of table) meaning built _) (λ after.
    ends_last_then (asks version after.line after.by_tree (end_form ∷ [])) _ (asks_no_end version after.line after.by_tree (end_form ∷ [])) (λ last.
    ends_last (record { net = net; blocks = after.blocks }))))))))))

-- ---- what is awaited

-- a code of a bound
abbrev IsOfBound : ℕ → Type 0
IsOfBound code = (29 ≤ code) × (code ≤ 30)

early_of_no_bound : (node : Bool) (code : ℕ) → code ≡ early node → IsOfBound code → ⊥
early_of_no_bound true code is p = omega (arith, is, p.0, p.1)
early_of_no_bound false code is p = omega (arith, is, p.0, p.1)

-- with nothing after them, no test of a bound fails
none_of_bound : {A : Type 0} (own : ℕ → Type 0) (c : Course A) (at : Place) (n code : ℕ) → EndsLast c → IsSettled own c → Awaits c at → FailsFirst c at n code → IsOfBound code → ⊥
unfolding EndsLast IsSettled Awaits FailsFirst
none_of_bound own (Give x) at n code e s p f b = p
none_of_bound own (Line node next) at n code e s (inl p) (inl f) b = early_of_no_bound node code (begun_breaks_last at (early node) code (LacksLine at) p f.1) b
none_of_bound own (Line node next) at n code e s (inl p) (inr f) b = begun_is_no_line at f.1 f.0 p f.2
none_of_bound own (Line node next) at n code e s (inr p) (inl f) b = line_breaks_none at p.0 p.1 (early node) code p.2 f.1
none_of_bound own (Line node next) at n code e s (inr p) (inr f) b =
    none_of_bound own (next p.0) p.1 n code (e p.0) (s p.0) p.3 (same_after (λ x a. FailsFirst (next x) a n code) at p.0 f.0 p.1 f.1 p.2 f.2 f.3) b
none_of_bound own (Test m c X P next) at n code e s p (inl f) b = f.2 p.0 p.1
none_of_bound own (Test m c X P next) at n code e s p (inr f) b =
    none_of_bound own (next p.0) at n code (e p.0) (s.2 p.0 p.1) p.2 (subst (λ (x : X). FailsFirst (next x) at n code) (s.1 f.0 p.0 f.1 p.1) f.2) b
none_of_bound own (End next) at n code e s (inl p) (inl f) b = let is : code ≡ 28 = begun_breaks_last at 28 code (HasMore at) p f.1 in omega (arith, is, b.0, b.1)
none_of_bound own (End next) at n code e s (inl p) (inr f) b = none_fails next at n code e f.1
none_of_bound own (End next) at n code e s (inr p) f b = none_awaited next at e p.1

-- with so many bytes and no LF after them, one does
abbrev FailsOfBound : {A : Type 0} → Course A → Place → Type 0
FailsOfBound c at = (n code : ℕ) × FailsFirst c at n code × IsOfBound code

breaks_bound : (at : Place) (more : List ℕ) (last : ℕ) (Other : Type 0) → IsBegun at.before at.left → IsLine more → MAX_LINE < length more
    → (code : ℕ) × BreaksLine (cut at (at.left ++ more)) last Other code × (29 ≤ code) × (code ≤ 30)
breaks_bound at more last Other p whole long = long_breaks (cut at (at.left ++ more)) last Other (IsLine-append at.left more p.0 whole) (omega (arith, long, length-append at.left more))

some_of_bound : {A : Type 0} (c : Course A) (at : Place) (more : List ℕ) → EndsLast c → Awaits c at → IsLine more → MAX_LINE < length more → FailsOfBound c (cut at (at.left ++ more))
unfolding EndsLast Awaits FailsFirst
some_of_bound (Give x) at more e p whole long = absurd p
some_of_bound (Line node next) at more e (inl p) whole long =
    let b = breaks_bound at more (early node) (LacksLine (cut at (at.left ++ more))) p whole long in
    (at.line, b.0, inl (refl, b.1), (b.2, b.3))
some_of_bound (Line node next) at more e (inr p) whole long =
    let r = some_of_bound (next p.0) p.1 more (e p.0) p.3 whole long in
    (r.0, r.1, inr (p.0, cut p.1 (p.1.left ++ more), line_and_more at p.1 p.0 more p.2, r.2), r.3)
some_of_bound (Test m c X P next) at more e p whole long =
    let r = some_of_bound (next p.0) at more (e p.0) p.2 whole long in
    (r.0, r.1, inr (p.0, p.1, r.2), r.3)
some_of_bound (End next) at more e (inl p) whole long =
    let b = breaks_bound at more 28 (HasMore (cut at (at.left ++ more))) p whole long in
    (at.line, b.0, inl (refl, b.1), (b.2, b.3))
some_of_bound (End next) at more e (inr p) whole long = absurd (none_awaited next at e p.1)

open_by : (bytes more : List ℕ) → IsLine more → MAX_LINE < length more → Awaits (course meaning versions built) (beginning bytes) → LeavesOpen bytes
open_by bytes more whole long p = λ line code all.
    let c : Course ReadOf = course meaning versions built in
    let some = some_of_bound c (beginning bytes) more document_ends_last p whole long in
    let one = first_is_one none_own c settled (beginning (bytes ++ more)) line some.0 code some.1 (all more) some.2 in
    let none : FailsFirst c (beginning bytes) line code = subst (λ (text : List ℕ). FailsFirst c (beginning text) line code) (append-nil bytes) (all []) in
    none_of_bound none_own c (beginning bytes) line code document_ends_last settled p none (subst IsOfBound (sym one.1) some.3)

-- bytes that await a line leave the fault open
pub awaited_open : (bytes : List ℕ) → Awaits (course meaning versions built) (beginning bytes) → LeavesOpen bytes
awaited_open bytes p =
    let more = none_ends (MAX_LINE + 1) in
    open_by bytes more.0 more.2 (omega (arith, more.1)) p
