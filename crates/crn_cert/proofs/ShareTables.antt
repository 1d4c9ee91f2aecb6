-- The tables of shares: the first distinct lists, one cut after another, and the numbers of lists.
use Rattle.crn_cert.proofs.Prelude.{Bor, ◌≡◌, ◌⊎◌, ◌≤◌, ◌<◌, inl, inr, ℕ, zero, suc, ◌+◌, ◌-◌, Bool, true, false, ◌||◌, if◌then◌else◌, List, [], ◌∷◌, ◌++◌, length, map, take, get_or, slice_get, refl, sym, ap, ap₂, subst, ◌∙◌, take_all, append_assoc, add-one, arith, ℤ, list_any, position, AllByRecursion, IsDistinct, position-Some, int_eq, pointwise, signed_items, cases_Bool, cases_lt, true≢false, append-nil, map-append, length-append, length-take, take-append-le, take_more, insert_key, IsIn, firsts, firsts_known, firsts_new, firsts_from, firsts_has, any_true, Answer, TreeNode, Plan, Both, Three, Listed, ListedSplitTwo, ListedSplitThree, ListedCutA, ListedCutB, ListedFlat, preorder, cuts_of, cuts_in, all_cuts, number_in, cuts_listed}
use Rattle.std.proofs.Common.{Some}
use Rattle.crn_cert.specs.Preorder.{listed}

abbrev same : List ℤ → List ℤ → Bool
same = pointwise int_eq

-- ---- cuts

cuts_next : (xs : List Answer) (k : ℕ) (a : Answer) → slice_get xs k ≡ Some a → all_cuts (take (suc k) xs) ≡ all_cuts (take k xs) ++ cuts_in a.proof
cuts_next [] k a e = absurd cc
cuts_next (x ∷ xs) zero a e = let f : x ≡ a = cc in append-nil (cuts_in x.proof) ∙ ap (λ (y : Answer). cuts_in y.proof) f
cuts_next (x ∷ xs) (suc k) a e = ap (λ (t : List (List ℤ)). cuts_in x.proof ++ t) (cuts_next xs k a e) ∙ sym (append_assoc (cuts_in x.proof) (all_cuts (take k xs)) (cuts_in a.proof))

-- the cuts of one answer more
pub cuts_step : (xs : List Answer) (k : ℕ) (a : Answer) → slice_get xs (k + 1 - 1) ≡ Some a → all_cuts (take (k + 1) xs) ≡ all_cuts (take k xs) ++ cuts_in a.proof
cuts_step xs k a e =
    let f : k + 1 - 1 ≡ k = omega arith in
    rw add-one (cuts_next xs k a (ap (λ (j : ℕ). slice_get xs j) (sym f) ∙ e))

-- ---- the cuts of nodes

cuts_apart : (xs ys : List Listed) → cuts_listed (xs ++ ys) ≡ cuts_listed xs ++ cuts_listed ys
cuts_apart [] ys = refl
cuts_apart (ListedSplitTwo ∷ xs) ys = cuts_apart xs ys
cuts_apart (ListedSplitThree ∷ xs) ys = cuts_apart xs ys
cuts_apart (ListedCutA u ∷ xs) ys = ap (λ (t : List (List ℤ)). u ∷ t) (cuts_apart xs ys)
cuts_apart (ListedCutB u ∷ xs) ys = ap (λ (t : List (List ℤ)). u ∷ t) (cuts_apart xs ys)
cuts_apart (ListedFlat ∷ xs) ys = cuts_apart xs ys

-- the cuts of one node more
pub cuts_node : (nodes : List TreeNode) (i : ℕ) (node : TreeNode) → i < length nodes → node ≡ get_or nodes i node → cuts_listed (map listed (take (i + 1) nodes)) ≡ cuts_listed (map listed (take i nodes)) ++ cuts_listed (listed node ∷ [])
cuts_node nodes i node lt is =
    ap (λ (ns : List TreeNode). cuts_listed (map listed ns)) (take_more nodes i node lt ∙ ap (λ (n : TreeNode). take i nodes ++ n ∷ []) (sym is))
    ∙ ap cuts_listed (map-append listed (take i nodes) (node ∷ []))
    ∙ cuts_apart (map listed (take i nodes)) (listed node ∷ [])

abbrev both_lists : List (List ℤ) → List (List ℤ) → List (List ℤ)
both_lists xs ys = xs ++ ys

-- the cuts of a tree's nodes are the tree's
pub cuts_all : (tree : Plan) → cuts_listed (preorder tree) ≡ cuts_of tree
cuts_all (Both z q) = cuts_apart (preorder z) (preorder q) ∙ ap₂ both_lists (cuts_all z) (cuts_all q)
cuts_all (Three z q m) =
    cuts_apart (preorder z ++ preorder q) (preorder m)
    ∙ ap₂ both_lists (cuts_apart (preorder z) (preorder q) ∙ ap₂ both_lists (cuts_all z) (cuts_all q)) (cuts_all m)
cuts_all tree = refl

-- ---- tables

any_in : (ts : List (List ℤ)) (u : List ℤ) → list_any (same u) ts ≡ true → IsIn u ts
any_in ts u e = any_true (same u) u (λ t. let is = signed_items u t in (λ hit. sym (is.0 hit), λ e. is.1 (sym e))) ts e

in_any : (ts : List (List ℤ)) (u : List ℤ) → IsIn u ts → list_any (same u) ts ≡ true
in_any [] u h = absurd h
in_any (t ∷ ts) u (inl e) = let hit : same u t ≡ true = (signed_items u t).1 e in rw hit refl
in_any (t ∷ ts) u (inr h) = elim (cases_Bool (same u t)) [
  | inl hit ↦ rw hit refl
  | inr miss ↦ rw miss (in_any ts u h)
]

known_or_new : (us : List (List ℤ)) (u : List ℤ) → (IsIn u us × (firsts same (us ++ u ∷ []) ≡ firsts same us)) ⊎ ((IsIn u us → ⊥) × (firsts same (us ++ u ∷ []) ≡ firsts same us ++ u ∷ []))
known_or_new us u = elim (cases_Bool (list_any (same u) us)) [
  | inl hit ↦ let i = any_in us u hit in inl (i, firsts_known same signed_items us u i)
  | inr miss ↦ let apart : IsIn u us → ⊥ = λ i. true≢false (sym (in_any us u i) ∙ miss) in inr (apart, firsts_new same signed_items us u apart)
]

-- no room: the table stays
full_table : (most : ℕ) (fs gs : List (List ℤ)) (u : List ℤ) → most ≤ length (take most fs) → (gs ≡ fs) ⊎ (gs ≡ fs ++ u ∷ []) → take most gs ≡ take most fs
full_table most fs gs u full (inl e) = ap (take most) e
full_table most fs gs u full (inr e) = ap (take most) e ∙ take-append-le most fs (u ∷ []) (omega (arith, full, length-take most fs))

whole_table : (most : ℕ) (fs : List (List ℤ)) → length (take most fs) < most → take most fs ≡ fs
whole_table most fs room = take_all most fs (omega (arith, room, length-take most fs))

not_there : (us : List (List ℤ)) (u : List ℤ) → (IsIn u us → ⊥) → list_any (same u) (firsts same us) ≡ false
not_there us u apart = elim (cases_Bool (list_any (same u) (firsts same us))) [
  | inl hit ↦ absurd (apart (firsts_from same us u (any_in (firsts same us) u hit)))
  | inr miss ↦ miss
]

either : (us : List (List ℤ)) (u : List ℤ) → (firsts same (us ++ u ∷ []) ≡ firsts same us) ⊎ (firsts same (us ++ u ∷ []) ≡ firsts same us ++ u ∷ [])
either us u = elim (known_or_new us u) [ inl known ↦ inl known.1 | inr added ↦ inr added.1 ]

-- the table with one cut more
next_table : (most : ℕ) (us : List (List ℤ)) (u : List ℤ) (old new : List (List ℤ)) → old ≡ take most (firsts same us) → (most ≤ length old → new ≡ old) → (length old < most → new ≡ insert_key same old u)
    → new ≡ take most (firsts same (us ++ u ∷ []))
next_table most us u old new is full room = elim (cases_lt (length old) most) [
  | inl lt ↦
      let few : length (take most (firsts same us)) < most = rw is at lt in
      let all = whole_table most (firsts same us) few in
      let short : length (firsts same us) < most = rw all at few in
      let was : old ≡ firsts same us = is ∙ all in
      let added : new ≡ insert_key same (firsts same us) u = rw was at (room lt) in
      elim (known_or_new us u) [
        | inl known ↦
            let there : list_any (same u) (firsts same us) ≡ true = in_any (firsts same us) u (firsts_has same signed_items us u known.0) in
            let kept : insert_key same (firsts same us) u ≡ firsts same us = rw there refl in
            added ∙ kept ∙ sym all ∙ ap (take most) (sym known.1)
        | inr new_one ↦
            let there : list_any (same u) (firsts same us) ≡ false = not_there us u new_one.0 in
            let kept : insert_key same (firsts same us) u ≡ firsts same us ++ u ∷ [] = rw there refl in
            let fits = take_all most (firsts same us ++ u ∷ []) (omega (arith, short, length-append (firsts same us) (u ∷ []))) in
            added ∙ kept ∙ sym fits ∙ ap (take most) (sym new_one.1)
      ]
  | inr le ↦
      let much : most ≤ length (take most (firsts same us)) = rw is at le in
      full le ∙ is ∙ sym (full_table most (firsts same us) (firsts same (us ++ u ∷ [])) u much (either us u))
]

-- ---- keys of a set, which are references

any_seen : (k : Bor (List ℤ)) (ks : List (Bor (List ℤ))) → list_any (λ t. same k.now t.now) ks ≡ list_any (same k.now) (map (λ u. u.now) ks)
any_seen k [] = refl
any_seen k (t ∷ ks) = ap (λ (b : Bool). same k.now t.now || b) (any_seen k ks)

if_seen : (b : Bool) (ks : List (Bor (List ℤ))) (k : Bor (List ℤ)) → map (λ u. u.now) (if b then ks else ks ++ k ∷ []) ≡ (if b then map (λ u. u.now) ks else map (λ u. u.now) ks ++ k.now ∷ [])
if_seen true ks k = refl
if_seen false ks k = map-append (λ u. u.now) ks (k ∷ [])

-- the lists that keys refer to, with one key more
pub keys_seen : (ks : List (Bor (List ℤ))) (k : Bor (List ℤ)) → map (λ u. u.now) (insert_key (λ x y. same x.now y.now) ks k) ≡ insert_key same (map (λ u. u.now) ks) k.now
keys_seen ks k =
    if_seen (list_any (λ t. same k.now t.now) ks) ks k
    ∙ ap (λ (b : Bool). if b then map (λ u. u.now) ks else map (λ u. u.now) ks ++ k.now ∷ []) (any_seen k ks)

-- ---- numbers of lists

flip : (t u : List ℤ) → same t u ≡ true → same u t ≡ true
flip t u h = (signed_items u t).1 (sym ((signed_items t u).0 h))

flip_not : (t u : List ℤ) → same t u ≡ false → same u t ≡ false
flip_not t u h = elim (cases_Bool (same u t)) [ inl hit ↦ absurd (true≢false (sym (flip u t hit) ∙ h)) | inr miss ↦ miss ]

number_found : (k : ℕ) (ts : List (Bor (List ℤ))) (u : List ℤ) (i : ℕ) (d : Bor (List ℤ)) → i < length ts → same u (get_or ts i d).now ≡ true → ((j : ℕ) → j < i → same u (get_or ts j d).now ≡ false)
    → number_in k (map (λ u. u.now) ts) u ≡ k + i
number_found k [] u i d lt hit before = absurd (omega arith)
number_found k (t ∷ ts) u zero d lt hit before = let h = flip u t.now hit in rw h (omega arith)
number_found k (t ∷ ts) u (suc i) d lt hit before =
    let h = flip_not u t.now (before 0 (omega arith)) in
    let rest = number_found (k + 1) ts u i d (omega arith) hit (λ j less. before (suc j) (omega arith)) in
    rw h (omega (arith, rest))

-- the number of a list that a search found, and 0 for one that no key equals
pub number_some : (ts : List (Bor (List ℤ))) (u : List ℤ) (i : ℕ) (d : Bor (List ℤ)) → position (λ t. same u t.now) ts ≡ Some i → number_in 1 (map (λ u. u.now) ts) u ≡ i + 1
number_some ts u i d e = let h = position-Some (λ t. same u t.now) ts i d e in number_found 1 ts u i d h.0 h.1 h.2 ∙ omega arith

pub number_zero : (k : ℕ) (ts : List (Bor (List ℤ))) (u : List ℤ) → list_any (λ t. same u t.now) ts ≡ false → number_in k (map (λ u. u.now) ts) u ≡ 0
number_zero k [] u e = refl
number_zero k (t ∷ ts) u e = elim (cases_Bool (same u t.now)) [
  | inl hit ↦ absurd (true≢false (rw hit at e))
  | inr miss ↦
      let h = flip_not u t.now miss in
      let rest : list_any (λ t. same u t.now) ts ≡ false = rw miss at e in
      rw h (number_zero (k + 1) ts u rest)
]

-- keys that are apart
abbrev AreApart : List (Bor (List ℤ)) → Type 0
AreApart ts = IsDistinct (λ x y. same x.now y.now) ts

all_got : {A : Type 0} (P : A → Type 0) (ts : List A) (i : ℕ) (x : A) → AllByRecursion P ts → slice_get ts i ≡ Some x → P x
all_got P [] i x all e = absurd cc
all_got P (t ∷ ts) zero x all e = let f : t ≡ x = cc in subst P f all.0
all_got P (t ∷ ts) (suc i) x all e = all_got P ts i x all.1 e

number_got : (k : ℕ) (ts : List (Bor (List ℤ))) (u : List ℤ) (i : ℕ) (x : Bor (List ℤ)) → AreApart ts → slice_get ts i ≡ Some x → same u x.now ≡ true → number_in k (map (λ u. u.now) ts) u ≡ k + i
unfolding IsDistinct
number_got k [] u i x apart e hit = absurd cc
number_got k (t ∷ ts) u zero x apart e hit =
    let f : t ≡ x = cc in
    let h : same t.now u ≡ true = flip u t.now (subst (λ (y : Bor (List ℤ)). same u y.now ≡ true) (sym f) hit) in
    rw h (omega arith)
number_got k (t ∷ ts) u (suc i) x apart e hit =
    let miss : same t.now x.now ≡ false = all_got (λ y. same t.now y.now ≡ false) ts i x apart.0 e in
    let h : same t.now u ≡ false = subst (λ (v : List ℤ). same t.now v ≡ false) (sym ((signed_items u x.now).0 hit)) miss in
    let rest = number_got (k + 1) ts u i x apart.1 e hit in
    rw h (omega (arith, rest))

-- the number of a list that is the key at a place
pub number_at : (ts : List (Bor (List ℤ))) (u : List ℤ) (i : ℕ) (x : Bor (List ℤ)) → IsDistinct (λ x y. same x.now y.now) ts → slice_get ts i ≡ Some x → same u x.now ≡ true → number_in 1 (map (λ u. u.now) ts) u ≡ i + 1
number_at ts u i x apart e hit = number_got 1 ts u i x apart e hit ∙ omega arith

got_at : {A : Type 0} (ts : List A) (i : ℕ) (d : A) → i < length ts → slice_get ts i ≡ Some (get_or ts i d)
got_at [] i d lt = absurd (omega (arith, lt))
got_at (t ∷ ts) zero d lt = refl
got_at (t ∷ ts) (suc i) d lt = got_at ts i d (omega (arith, lt))

key_is_in : (ts : List (Bor (List ℤ))) (i : ℕ) (x : Bor (List ℤ)) → slice_get ts i ≡ Some x → IsIn x.now (map (λ u. u.now) ts)
key_is_in [] i x e = absurd cc
key_is_in (t ∷ ts) zero x e = let f : t ≡ x = cc in inl (ap (λ (y : Bor (List ℤ)). y.now) (sym f))
key_is_in (t ∷ ts) (suc i) x e = inr (key_is_in ts i x e)

-- the list at a place of the keys has the number of the place, and is known
pub number_of_key : (keys lists : List (Bor (List ℤ))) (u : List ℤ) (i : ℕ) (d : Bor (List ℤ)) → lists ≡ keys → IsDistinct (λ x y. same x.now y.now) keys → i < length lists → (get_or lists i d).now ≡ u
    → (number_in 1 (map (λ u. u.now) keys) u ≡ i + 1) × IsIn u (map (λ u. u.now) keys)
number_of_key keys lists u i d e apart lt is =
    let x = get_or lists i d in
    let got : slice_get keys i ≡ Some x = subst (λ (ks : List (Bor (List ℤ))). slice_get ks i ≡ Some x) e (got_at lists i d lt) in
    let hit : same u x.now ≡ true = (signed_items u x.now).1 (sym is) in
    (number_at keys u i x apart got hit, subst (λ (v : List ℤ). IsIn v (map (λ u. u.now) keys)) is (key_is_in keys i x got))

-- a list that is known is not added
pub known_stays : (ks : List (List ℤ)) (u : List ℤ) → IsIn u ks → ks ≡ insert_key same ks u
known_stays ks u h = let there : list_any (same u) ks ≡ true = in_any ks u h in rw there refl

-- more lists at the end change the number of no list before them
number_later : (k : ℕ) (ts es : List (List ℤ)) (u : List ℤ) → IsIn u ts → number_in k (ts ++ es) u ≡ number_in k ts u
number_later k [] es u h = absurd h
number_later k (t ∷ ts) es u h = elim (cases_Bool (same t u)) [
  | inl hit ↦ rw hit refl
  | inr miss ↦
      let rest : IsIn u ts = elim h [ inl e ↦ absurd (true≢false (sym ((signed_items t u).1 (sym e)) ∙ miss)) | inr later ↦ later ] in
      rw miss (number_later (k + 1) ts es u rest)
]

numbers_later : (ts es us : List (List ℤ)) → ((u : List ℤ) → IsIn u us → IsIn u ts) → map (number_in 1 (ts ++ es)) us ≡ map (number_in 1 ts) us
numbers_later ts es [] all = refl
numbers_later ts es (u ∷ us) all =
    let first = number_later 1 ts es u (all u (inl refl)) in
    let rest = numbers_later ts es us (λ v h. all v (inr h)) in
    rw (first, rest) refl

either_insert : (ks : List (List ℤ)) (u : List ℤ) → (insert_key same ks u ≡ ks) ⊎ (insert_key same ks u ≡ ks ++ u ∷ [])
either_insert ks u = elim (cases_Bool (list_any (same u) ks)) [ inl hit ↦ inl (rw hit refl) | inr miss ↦ inr (rw miss refl) ]

-- one cut more changes the number of no cut before it
numbers_stay : (most : ℕ) (us : List (List ℤ)) (u : List ℤ) (old new : List (List ℤ)) → old ≡ take most (firsts same us) → (most ≤ length old → new ≡ old) → (length old < most → new ≡ insert_key same old u)
    → map (number_in 1 new) us ≡ map (number_in 1 old) us
numbers_stay most us u old new is full room = elim (cases_lt (length old) most) [
  | inl lt ↦
      let few : length (take most (firsts same us)) < most = rw is at lt in
      let was : old ≡ firsts same us = is ∙ whole_table most (firsts same us) few in
      let all : (v : List ℤ) → IsIn v us → IsIn v old = λ v h. subst (λ (ks : List (List ℤ)). IsIn v ks) (sym was) (firsts_has same signed_items us v h) in
      elim (either_insert old u) [
        | inl same_keys ↦ ap (λ (ks : List (List ℤ)). map (number_in 1 ks) us) (room lt ∙ same_keys)
        | inr one_more ↦ ap (λ (ks : List (List ℤ)). map (number_in 1 ks) us) (room lt ∙ one_more) ∙ numbers_later old (u ∷ []) us all
      ]
  | inr le ↦ ap (λ (ks : List (List ℤ)). map (number_in 1 ks) us) (full le)
]

-- the numbers of one cut more
numbers_step : (ts ts' us : List (List ℤ)) (u : List ℤ) (old new : List ℕ) (n : ℕ) → old ≡ map (number_in 1 ts) us → map (number_in 1 ts') us ≡ map (number_in 1 ts) us
    → n ≡ number_in 1 ts' u → new ≡ old ++ n ∷ [] → new ≡ map (number_in 1 ts') (us ++ u ∷ [])
numbers_step ts ts' us u old new n was stays number is =
    is ∙ ap₂ (λ (a : List ℕ) (b : ℕ). a ++ b ∷ []) (was ∙ sym stays) number ∙ sym (map-append (number_in 1 ts') us (u ∷ []))

-- the share of one cut more
pub share_more : (most : ℕ) (us : List (List ℤ)) (u : List ℤ) (old new : List (List ℤ)) (leaf leaf' : List ℕ) (n : ℕ)
    → old ≡ take most (firsts same us) → leaf ≡ map (number_in 1 (take most (firsts same us))) us
    → (most ≤ length old → new ≡ old) → (length old < most → new ≡ insert_key same old u) → n ≡ number_in 1 new u → leaf' ≡ leaf ++ n ∷ []
    → (new ≡ take most (firsts same (us ++ u ∷ []))) × (leaf' ≡ map (number_in 1 (take most (firsts same (us ++ u ∷ [])))) (us ++ u ∷ []))
share_more most us u old new leaf leaf' n table numbers full room number is =
    let next = next_table most us u old new table full room in
    let was : leaf ≡ map (number_in 1 old) us = numbers ∙ ap (λ (ts : List (List ℤ)). map (number_in 1 ts) us) (sym table) in
    let stays = numbers_stay most us u old new table full room in
    let all = numbers_step old new us u leaf leaf' n was stays number is in
    (next, all ∙ ap (λ (ts : List (List ℤ)). map (number_in 1 ts) (us ++ u ∷ [])) next)
