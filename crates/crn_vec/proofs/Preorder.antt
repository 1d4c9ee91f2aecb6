-- Visit lists are in preorder.
use Rattle.crn_vec.proofs.Prelude.{◌≡◌, ◌⊎◌, inl, inr, List, [], ◌∷◌, ◌++◌, Bool, true, false, refl, sym, ap, subst, false≢true, append_assoc, Sign, Zero, Plus, Minus, IsIn, Signed, IsFull, IsFeasible, children, options_below, all_zero, Visits, over, fallen, ended, opened, IsReached, first, child, root, IsEarlier, IsBefore, AreInPreorder, EndsVisits, VisitsArePreorder}
use Rattle.std.specs.Prelude.{map}
use Rattle.crn_vec.proofs.Lists.{in_left, in_right, in_cases}
use Rattle.crn_vec.proofs.VisitsReached.{only_reached}

-- ---- the order

-- q has a later option at the first place where they differ, and both have that place
abbrev IsLeft : List Sign → List Sign → Type 0
IsLeft [] q = ⊥
IsLeft (s ∷ p) [] = ⊥
IsLeft (s ∷ p) (t ∷ q) = IsEarlier s t ⊎ ((s ≡ t) × IsLeft p q)

left_before : (p q : List Sign) → IsLeft p q → IsBefore p q
left_before [] q h = absurd h
left_before (s ∷ p) [] h = absurd h
left_before (s ∷ p) (t ∷ q) (inl e) = inl e
left_before (s ∷ p) (t ∷ q) (inr h) = inr (h.0, left_before p q h.1)

left_more : (p a q : List Sign) → IsLeft p q → IsLeft (p ++ a) q
left_more [] a q h = absurd h
left_more (s ∷ p) a [] h = absurd h
left_more (s ∷ p) a (t ∷ q) (inl e) = inl e
left_more (s ∷ p) a (t ∷ q) (inr h) = inr (h.0, left_more p a q h.1)

left_far : (p q b : List Sign) → IsLeft p q → IsLeft p (q ++ b)
left_far [] q b h = absurd h
left_far (s ∷ p) [] b h = absurd h
left_far (s ∷ p) (t ∷ q) b (inl e) = inl e
left_far (s ∷ p) (t ∷ q) b (inr h) = inr (h.0, left_far p q b h.1)

before_far : (p q b : List Sign) → IsBefore p q → IsBefore p (q ++ b)
before_far [] [] b h = absurd h
before_far [] (t ∷ q) b h = tt
before_far (s ∷ p) [] b h = absurd h
before_far (s ∷ p) (t ∷ q) b (inl e) = inl e
before_far (s ∷ p) (t ∷ q) b (inr h) = inr (h.0, before_far p q b h.1)

before_longer : (p : List Sign) (s : Sign) (a : List Sign) → IsBefore p (p ++ s ∷ a)
before_longer [] s a = tt
before_longer (t ∷ p) s a = inr (refl, before_longer p s a)

siblings : (p : List Sign) (s t : Sign) → IsEarlier s t → IsLeft (p ++ s ∷ []) (p ++ t ∷ [])
siblings [] s t e = inl e
siblings (u ∷ p) s t e = inr (refl, siblings p s t e)

earlier_one : (s t : Sign) → IsEarlier s t → IsEarlier t s → ⊥
earlier_one Zero Zero a b = a
earlier_one Zero Plus a b = b
earlier_one Zero Minus a b = b
earlier_one Plus Zero a b = a
earlier_one Plus Plus a b = a
earlier_one Plus Minus a b = b
earlier_one Minus Zero a b = a
earlier_one Minus Plus a b = a
earlier_one Minus Minus a b = a

earlier_self : (s t : Sign) → s ≡ t → IsEarlier s t → ⊥
earlier_self s t e h = let k : IsEarlier s s = subst (λ (u : Sign). IsEarlier s u) (sym e) h in earlier_one s s k k

one_way : (p q : List Sign) → IsBefore p q → IsBefore q p → ⊥
one_way [] [] a b = absurd a
one_way [] (t ∷ q) a b = absurd b
one_way (s ∷ p) [] a b = absurd a
one_way (s ∷ p) (t ∷ q) (inl a) (inl b) = earlier_one s t a b
one_way (s ∷ p) (t ∷ q) (inl a) (inr b) = earlier_self s t (sym b.0) a
one_way (s ∷ p) (t ∷ q) (inr a) (inl b) = earlier_self t s (sym a.0) b
one_way (s ∷ p) (t ∷ q) (inr a) (inr b) = one_way p q a.1 b.1

-- ---- what is due

-- each member is left of all that follow it
abbrev AreLeft : List (List Sign) → Type 0
AreLeft [] = Unit {0}
AreLeft (p ∷ ps) = ((q : List Sign) → IsIn q ps → IsLeft p q) × AreLeft ps

-- children of a prefix, by whether it is all zero
abbrev below : List Sign → Bool → List (List Sign)
below p z = map (λ s. p ++ s ∷ []) (options_below z)

-- each child continues the prefix by one option
abbrev Continues : List Sign → List Sign → Type 0
Continues p q = (s : Sign) × (q ≡ p ++ s ∷ [])

child_continues : (p : List Sign) (z : Bool) (q : List Sign) → IsIn q (below p z) → Continues p q
child_continues p true q (inl e) = (Zero, e)
child_continues p true q (inr (inl e)) = (Plus, e)
child_continues p true q (inr (inr i)) = absurd i
child_continues p false q (inl e) = (Zero, e)
child_continues p false q (inr (inl e)) = (Plus, e)
child_continues p false q (inr (inr (inl e))) = (Minus, e)
child_continues p false q (inr (inr (inr i))) = absurd i

-- a child is left of the later children, and of all that the prefix is left of
later_child : (p : List Sign) (s : Sign) (due : List (List Sign)) → ((q : List Sign) → IsIn q due → IsLeft p q) → (q : List Sign) → IsIn q due → IsLeft (p ++ s ∷ []) q
later_child p s due h q i = left_more p (s ∷ []) q (h q i)

left_is : (p : List Sign) (s t : Sign) (q : List Sign) → q ≡ p ++ t ∷ [] → IsEarlier s t → IsLeft (p ++ s ∷ []) q
left_is p s t q e h = subst (λ (u : List Sign). IsLeft (p ++ s ∷ []) u) (sym e) (siblings p s t h)

due_left : (p : List Sign) (z : Bool) (due : List (List Sign)) → ((q : List Sign) → IsIn q due → IsLeft p q) → AreLeft due → AreLeft (below p z ++ due)
due_left p true due h d =
    let plus : AreLeft ((p ++ Plus ∷ []) ∷ due) = (λ q i. later_child p Plus due h q i, d) in
    (λ q i. elim i [ inl e ↦ left_is p Zero Plus q e tt | inr k ↦ later_child p Zero due h q k ], plus)
due_left p false due h d =
    let minus : AreLeft ((p ++ Minus ∷ []) ∷ due) = (λ q i. later_child p Minus due h q i, d) in
    let plus : AreLeft ((p ++ Plus ∷ []) ∷ (p ++ Minus ∷ []) ∷ due) = (λ q i. elim i [ inl e ↦ left_is p Plus Minus q e tt | inr k ↦ later_child p Plus due h q k ], minus) in
    (λ q i. elim i [ inl e ↦ left_is p Zero Plus q e tt | inr k ↦ elim k [ inl e ↦ left_is p Zero Minus q e tt | inr m ↦ later_child p Zero due h q m ] ], plus)

-- ---- visits

-- what is visited continues what is due
record From (due : List (List Sign)) (q : List Sign) : Type 0 where
  start : List Sign
  is_due : IsIn start due
  rest : List Sign
  is : q ≡ start ++ rest

append_none : (p : List Sign) → p ≡ p ++ []
append_none [] = refl
append_none (s ∷ p) = ap (λ (t : List Sign). s ∷ t) (append_none p)

visited_from : (w : Signed) (due l : List (List Sign)) (f : Bool) → Visits w due l f → (q : List Sign) → IsIn q l → From due q
visited_from w due l f over q i = absurd i
visited_from w (p ∷ due) (p' ∷ l) f (fallen n v) q (inl e) = record { start = q; is_due = inl e; rest = []; is = append_none q }
visited_from w (p ∷ due) (p' ∷ l) f (fallen n v) q (inr i) =
    let k = visited_from w due l f v q i in record { start = k.start; is_due = inr k.is_due; rest = k.rest; is = k.is }
visited_from w (p ∷ due) (p' ∷ l) f (ended s u) q (inl e) = record { start = q; is_due = inl e; rest = []; is = append_none q }
visited_from w (p ∷ due) (p' ∷ l) f (ended s u) q (inr i) = absurd i
visited_from w (p ∷ due) (p' ∷ l) f (opened s n v) q (inl e) = record { start = q; is_due = inl e; rest = []; is = append_none q }
visited_from w (p ∷ due) (p' ∷ l) f (opened s n v) q (inr i) =
    let k = visited_from w (children p ++ due) l f v q i in
    elim (in_cases k.start (children p) due k.is_due) [
      | inl c ↦ let at = child_continues p (all_zero p) k.start c in
          record { start = p; is_due = inl refl; rest = at.0 ∷ k.rest; is = subst (λ (t : List Sign). q ≡ t) (append_assoc p (at.0 ∷ []) k.rest) (subst (λ (t : List Sign). q ≡ t ++ k.rest) at.1 k.is) }
      | inr d ↦ record { start = k.start; is_due = inr d; rest = k.rest; is = k.is }
    ]

-- what is left of all that is due is before all that is visited
before_all : (p : List Sign) (due : List (List Sign)) → ((q : List Sign) → IsIn q due → IsLeft p q) → (q : List Sign) → From due q → IsBefore p q
before_all p due h q k = subst (λ (t : List Sign). IsBefore p t) (sym k.is) (left_before p (k.start ++ k.rest) (left_far p k.start k.rest (h k.start k.is_due)))

-- a prefix is before all that is visited from its children and from what it is left of
opened_before : (p : List Sign) (due : List (List Sign)) → ((q : List Sign) → IsIn q due → IsLeft p q) → (q : List Sign) → From (children p ++ due) q → IsBefore p q
opened_before p due h q k = elim (in_cases k.start (children p) due k.is_due) [
  | inl c ↦ let at = child_continues p (all_zero p) k.start c in
      subst (λ (t : List Sign). IsBefore p t) (sym k.is) (before_far p k.start k.rest (subst (λ (t : List Sign). IsBefore p t) (sym at.1) (before_longer p at.0 [])))
  | inr d ↦ before_all p due h q (record { start = k.start; is_due = d; rest = k.rest; is = k.is })
]

ordered : (w : Signed) (due l : List (List Sign)) (f : Bool) → Visits w due l f → AreLeft due → AreInPreorder l
ordered w due l f over h = tt
ordered w (p ∷ due) (p' ∷ l) f (fallen n v) h = (λ q i. before_all p due h.0 q (visited_from w due l f v q i), ordered w due l f v h.1)
ordered w (p ∷ due) (p' ∷ l) f (ended s u) h = (λ q i. absurd i, tt)
ordered w (p ∷ due) (p' ∷ l) f (opened s n v) h =
    (λ q i. opened_before p due h.0 q (visited_from w (children p ++ due) l f v q i), ordered w (children p ++ due) l f v (due_left p (all_zero p) due h.0 h.1))

-- nothing that is visited comes after what ends the list
none_after : (w : Signed) (due l : List (List Sign)) (f : Bool) → Visits w due l f → AreInPreorder l → (q r : List Sign) → IsIn q l → IsIn r l → EndsVisits w r → IsBefore r q → ⊥
none_after w due l f over o q r i j e b = absurd i
none_after w (p ∷ due) (p' ∷ l) f (fallen n v) o q r i (inl k) e b = n (subst (λ (t : List Sign). IsFeasible w t) k e.1)
none_after w (p ∷ due) (p' ∷ l) f (fallen n v) o q r (inl k) (inr j) e b = one_way p r (o.0 r j) (subst (λ (t : List Sign). IsBefore r t) k b)
none_after w (p ∷ due) (p' ∷ l) f (fallen n v) o q r (inr i) (inr j) e b = none_after w due l f v o.1 q r i j e b
none_after w (p ∷ due) (p' ∷ l) f (ended s u) o q r (inl i) (inl j) e b =
    let c : IsBefore p p = subst (λ (t : List Sign). IsBefore t p) j (subst (λ (t : List Sign). IsBefore r t) i b) in one_way p p c c
none_after w (p ∷ due) (p' ∷ l) f (ended s u) o q r (inl i) (inr j) e b = absurd j
none_after w (p ∷ due) (p' ∷ l) f (ended s u) o q r (inr i) j e b = absurd i
none_after w (p ∷ due) (p' ∷ l) f (opened s n v) o q r i (inl k) e b = n (subst (λ (t : List Sign). IsFull w t) k e.0)
none_after w (p ∷ due) (p' ∷ l) f (opened s n v) o q r (inl k) (inr j) e b = one_way p r (o.0 r j) (subst (λ (t : List Sign). IsBefore r t) k b)
none_after w (p ∷ due) (p' ∷ l) f (opened s n v) o q r (inr i) (inr j) e b = none_after w (children p ++ due) l f v o.1 q r i j e b

-- q is visited, or comes after what ends the list
record Ended (w : Signed) (l : List (List Sign)) (q : List Sign) : Type 0 where
  r : List Sign
  is_in : IsIn r l
  ends : EndsVisits w r
  before : IsBefore r q

abbrev IsPast : Signed → List (List Sign) → List Sign → Type 0
IsPast w l q = IsIn q l ⊎ Ended w l q

past_then : (w : Signed) (p : List Sign) (l : List (List Sign)) (q : List Sign) → IsPast w l q → IsPast w (p ∷ l) q
past_then w p l q (inl i) = inl (inr i)
past_then w p l q (inr e) = inr (record { r = e.r; is_in = inr e.is_in; ends = e.ends; before = e.before })

due_past : (w : Signed) (due l : List (List Sign)) (f : Bool) → Visits w due l f → AreLeft due → (q : List Sign) → IsIn q due → IsPast w l q
due_past w due l f over h q i = absurd i
due_past w (p ∷ due) (p' ∷ l) f (fallen n v) h q (inl e) = inl (inl e)
due_past w (p ∷ due) (p' ∷ l) f (fallen n v) h q (inr i) = past_then w p l q (due_past w due l f v h.1 q i)
due_past w (p ∷ due) (p' ∷ l) f (ended s u) h q (inl e) = inl (inl e)
due_past w (p ∷ due) (p' ∷ l) f (ended s u) h q (inr i) = inr (record { r = p; is_in = inl refl; ends = (u, s); before = left_before p q (h.0 q i) })
due_past w (p ∷ due) (p' ∷ l) f (opened s n v) h q (inl e) = inl (inl e)
due_past w (p ∷ due) (p' ∷ l) f (opened s n v) h q (inr i) = past_then w p l q (due_past w (children p ++ due) l f v (due_left p (all_zero p) due h.0 h.1) q (in_right q (children p) due i))

children_past : (w : Signed) (due l : List (List Sign)) (f : Bool) → Visits w due l f → AreLeft due → (x q : List Sign) → IsIn x l → IsFeasible w x → (IsFull w x → ⊥) → IsIn q (children x) → IsPast w l q
children_past w due l f over h x q i s n c = absurd i
children_past w (p ∷ due) (p' ∷ l) f (fallen m v) h x q (inl e) s n c = absurd (m (subst (λ (t : List Sign). IsFeasible w t) e s))
children_past w (p ∷ due) (p' ∷ l) f (fallen m v) h x q (inr i) s n c = past_then w p l q (children_past w due l f v h.1 x q i s n c)
children_past w (p ∷ due) (p' ∷ l) f (ended t u) h x q (inl e) s n c = absurd (n (subst (λ (t : List Sign). IsFull w t) (sym e) u))
children_past w (p ∷ due) (p' ∷ l) f (ended t u) h x q (inr i) s n c = absurd i
children_past w (p ∷ due) (p' ∷ l) f (opened t m v) h x q (inl e) s n c =
    past_then w p l q (due_past w (children p ++ due) l f v (due_left p (all_zero p) due h.0 h.1) q (in_left q (children p) due (subst (λ (t : List Sign). IsIn q (children t)) e c)))
children_past w (p ∷ due) (p' ∷ l) f (opened t m v) h x q (inr i) s n c = past_then w p l q (children_past w (children p ++ due) l f v (due_left p (all_zero p) due h.0 h.1) x q i s n c)

root_left : AreLeft root
root_left = (λ q i. absurd i, tt)

all_past : (w : Signed) (l : List (List Sign)) (f : Bool) → Visits w root l f → (q : List Sign) → IsReached w q → IsPast w l q
all_past w l f v q first = due_past w root l f v root_left q (inl refl)
all_past w l f v q (child {p} r h s n c) = elim (all_past w l f v p h) [
  | inl i ↦ children_past w root l f v root_left p r i s n c
  | inr e ↦ let at = child_continues p (all_zero p) r c in
      inr (record { r = e.r; is_in = e.is_in; ends = e.ends; before = subst (λ (t : List Sign). IsBefore e.r t) (sym at.1) (before_far e.r p (at.0 ∷ []) e.before) })
]

-- a list that is ended has what ends it
found_one : (w : Signed) (due l : List (List Sign)) (f : Bool) → Visits w due l f → f ≡ true → (r : List Sign) × IsIn r l × EndsVisits w r
found_one w due l f over z = absurd (false≢true z)
found_one w (p ∷ due) (p' ∷ l) f (fallen n v) z = let k = found_one w due l f v z in (k.0, inr k.1, k.2)
found_one w (p ∷ due) (p' ∷ l) f (ended s u) z = (p, inl refl, (u, s))
found_one w (p ∷ due) (p' ∷ l) f (opened s n v) z = let k = found_one w (children p ++ due) l f v z in (k.0, inr k.1, k.2)

-- and what ends a list is found
end_found : (w : Signed) (due l : List (List Sign)) (f : Bool) → Visits w due l f → (r : List Sign) → IsIn r l → EndsVisits w r → f ≡ true
end_found w due l f over r i e = absurd i
end_found w (p ∷ due) (p' ∷ l) f (fallen n v) r (inl k) e = absurd (n (subst (λ (t : List Sign). IsFeasible w t) k e.1))
end_found w (p ∷ due) (p' ∷ l) f (fallen n v) r (inr i) e = end_found w due l f v r i e
end_found w (p ∷ due) (p' ∷ l) f (ended s u) r i e = refl
end_found w (p ∷ due) (p' ∷ l) f (opened s n v) r (inl k) e = absurd (n (subst (λ (t : List Sign). IsFull w t) k e.0))
end_found w (p ∷ due) (p' ∷ l) f (opened s n v) r (inr i) e = end_found w (children p ++ due) l f v r i e

pub visits_are_preorder : VisitsArePreorder
visits_are_preorder w l f v =
    let order : AreInPreorder l = ordered w root l f v root_left in
    record {
      order = order;
      reached = only_reached w root l f v (λ q i. elim i as (λ _. IsReached w q) [ inl e ↦ subst (λ (t : List Sign). IsReached w t) (sym e) first | inr k ↦ absurd k ]);
      whole = λ q h. elim (all_past w l f v q h) [ inl i ↦ inl i | inr e ↦ inr (e.r, e.is_in, e.ends, e.before) ];
      last = λ q r i j e b. none_after w root l f v order q r i j e b;
      found_is = λ z. found_one w root l f v z;
      ends = λ r i e. end_found w root l f v r i e;
    }
