-- The path of options represents the prefixes still due.
use Rattle.crn_ctree.proofs.Prelude.{◌≡◌, ◌≢◌, Bool, true, false, cond, List, [], ◌∷◌, ◌++◌, refl, sym, ap, ◌∙◌, append-nil, Sign, Zero, Plus, Minus, all_zero, children, first, rest, later, due_after, due_by}
use Rattle.std.proofs.Common.{append_assoc}

-- the last option of a path and what is after it
pub popped : (prefix q : List Sign) (s : Sign) → due_after prefix (q ++ s ∷ []) ≡ later (prefix ++ q) s ++ due_after prefix q
popped prefix [] s = rw (append-nil prefix, append-nil (later prefix s)) refl
popped prefix (x ∷ q) s =
    ap (λ (w : List (List Sign)). w ++ later prefix x) (popped (prefix ++ x ∷ []) q s)
    ∙ append_assoc (later (prefix ++ x ∷ [] ++ q) s) (due_after (prefix ++ x ∷ []) q) (later prefix x)
    ∙ ap (λ (w : List Sign). later w s ++ (due_after (prefix ++ x ∷ []) q ++ later prefix x)) (append_assoc prefix (x ∷ []) q)

-- a split goes to its child zero, and has the other children due before what was due after it
pub split_due : (p : List Sign) → due_by false (p ++ Zero ∷ []) ≡ (p ++ Zero ∷ []) ∷ (later p Zero ++ due_after [] p)
split_due p = ap (λ (w : List (List Sign)). (p ++ Zero ∷ []) ∷ w) (popped [] p Zero)

-- after a leaf: the next sibling of the last option that has one
pub plus_due : (q : List Sign) → due_after [] (q ++ Zero ∷ []) ≡ due_by false (q ++ Plus ∷ [])
plus_due q = popped [] q Zero ∙ go (all_zero q) refl ∙ ap (λ (w : List (List Sign)). (q ++ Plus ∷ []) ∷ w) (sym (popped [] q Plus))
  where
    go : (b : Bool) → all_zero q ≡ b → (cond b ((q ++ Plus ∷ []) ∷ []) ((q ++ Plus ∷ []) ∷ (q ++ Minus ∷ []) ∷ []) ++ due_after [] q) ≡ (q ++ Plus ∷ []) ∷ (cond b [] ((q ++ Minus ∷ []) ∷ []) ++ due_after [] q)
    go true h = refl
    go false h = refl

pub minus_due : (q : List Sign) → all_zero q ≡ false → due_after [] (q ++ Plus ∷ []) ≡ due_by false (q ++ Minus ∷ [])
minus_due q h = popped [] q Plus ∙ rw h refl ∙ ap (λ (w : List (List Sign)). (q ++ Minus ∷ []) ∷ w) (sym (popped [] q Minus))

pub up_from_plus : (q : List Sign) → all_zero q ≡ true → due_after [] (q ++ Plus ∷ []) ≡ due_after [] q
up_from_plus q h = popped [] q Plus ∙ rw h refl

pub up_from_minus : (q : List Sign) → due_after [] (q ++ Minus ∷ []) ≡ due_after [] q
up_from_minus q = popped [] q Minus

children_are : (p : List Sign) → children p ≡ (p ++ Zero ∷ []) ∷ later p Zero
children_are p = by (all_zero p) refl
  where
    by : (b : Bool) → all_zero p ≡ b → children p ≡ (p ++ Zero ∷ []) ∷ later p Zero
    by true e = rw e refl
    by false e = rw e refl

pub open_due : (b : Bool) (p : List Sign) → due_by b p ≢ [] → due_by b (p ++ Zero ∷ []) ≡ children (first (due_by b p)) ++ rest (due_by b p)
open_due true p n = absurd (n refl)
open_due false p n = split_due p ∙ ap (λ (w : List (List Sign)). w ++ due_after [] p) (sym (children_are p))

pub close_due : (b : Bool) (p : List Sign) → due_by b p ≢ [] → due_after [] p ≡ rest (due_by b p)
close_due true p n = absurd (n refl)
close_due false p n = refl

-- ---- one option taken from the path

pub zero_on : (q olds news : List Sign) (o : Sign) (due : List (List Sign)) → olds ≡ q ++ o ∷ [] → o ≡ Zero → news ≡ q ++ Plus ∷ [] → due_after [] olds ≡ due → due_by false news ≡ due
zero_on q olds news o due e z n h = ap (λ (t : List Sign). due_by false t) n ∙ sym (plus_due q) ∙ ap (λ (t : Sign). due_after [] (q ++ t ∷ [])) (sym z) ∙ ap (due_after []) (sym e) ∙ h

pub plus_on : (q olds news : List Sign) (o : Sign) (due : List (List Sign)) → olds ≡ q ++ o ∷ [] → o ≡ Plus → all_zero q ≡ false → news ≡ q ++ Minus ∷ [] → due_after [] olds ≡ due → due_by false news ≡ due
plus_on q olds news o due e z some n h = ap (λ (t : List Sign). due_by false t) n ∙ sym (minus_due q some) ∙ ap (λ (t : Sign). due_after [] (q ++ t ∷ [])) (sym z) ∙ ap (due_after []) (sym e) ∙ h

pub plus_up : (q olds : List Sign) (o : Sign) (due : List (List Sign)) → olds ≡ q ++ o ∷ [] → o ≡ Plus → all_zero q ≡ true → due_after [] olds ≡ due → due_after [] q ≡ due
plus_up q olds o due e z none h = sym (up_from_plus q none) ∙ ap (λ (t : Sign). due_after [] (q ++ t ∷ [])) (sym z) ∙ ap (due_after []) (sym e) ∙ h

pub minus_up : (q olds : List Sign) (o : Sign) (due : List (List Sign)) → olds ≡ q ++ o ∷ [] → o ≡ Minus → due_after [] olds ≡ due → due_after [] q ≡ due
minus_up q olds o due e z h = sym (up_from_minus q) ∙ ap (λ (t : Sign). due_after [] (q ++ t ∷ [])) (sym z) ∙ ap (due_after []) (sym e) ∙ h
