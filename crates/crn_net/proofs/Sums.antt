-- Sums of names over shares: in another order, over the terms of both sides, and over shares sorted by their names.
use Rattle.crn_net.proofs.Prelude.{◌≡◌, ℕ, zero, suc, ◌+◌, ◌*◌, ◌-◌, ◌^◌, ◌<◌, ◌≤◌, Bool, true, false, not, cond, List, [], ◌∷◌, length, get_or, take, map, refl, sym, ap, subst, ◌∙◌, inl, inr, arith, ℤ, pos, negsuc, ◌+ℤ◌, ◌-ℤ◌, ◌≤ℤ◌, AllByRecursion, fold, sum_by, IsPermutation, bytes_eq, nat_cmp, is_lt, is_eq, ordering_reverse, Ordering, Less, Equal, Greater, slice_cmp, cases_Bool, cases_lt, nat_list_cmp_total, ints, bytes_eq-Decides, take_all, get_or_default, sum_by-cons, fold_more, sum_by-IsPermutation, sorted_far, ranks_by, is_eq-slice_cmp, amount_in, MAX_AMOUNT, MAX_TERMS, Share, Term, share_of, name_in, sum_in, AreByName, name_at, side_of}
use borrow.Author.Differences.{up, down}
use mir.Syntax.{w32}
use mir.Val.{SFits}

-- what one share adds to the sum of a name
abbrev pub added : List ℕ → List ℕ → Share → ℤ
added text name s = cond (bytes_eq (name_in text s) name) s.count (pos 0)

-- ---- in another order

-- what is added, and apart from it what is subtracted
parted : (f : Share → ℤ) (start : ℤ) (xs : List Share) → fold (λ a s. a +ℤ f s) start xs +ℤ pos (sum_by (λ s. down (f s)) xs) ≡ start +ℤ pos (sum_by (λ s. up (f s)) xs)
parted f start [] = refl
parted f start (x ∷ xs) =
    let ups = sum_by-cons (λ s. up (f s)) x xs in
    let downs = sum_by-cons (λ s. down (f s)) x xs in
    let rest = parted f (start +ℤ f x) xs in
    omega (arith, ints, ups, downs, rest)

pub sum_in_any_order : (text : List ℕ) (xs ys : List Share) (name : List ℕ) → IsPermutation xs ys → sum_in text ys name ≡ sum_in text xs name
sum_in_any_order text xs ys name h =
    let f = added text name in
    let ups = sum_by-IsPermutation (λ s. up (f s)) xs ys h in
    let downs = sum_by-IsPermutation (λ s. down (f s)) xs ys h in
    let before = parted f (pos 0) xs in
    let after = parted f (pos 0) ys in
    omega (arith, ints, ups, downs, before, after)

-- ---- over the terms of both sides

pub left_added : (text name : List ℕ) (start : ℤ) (side : List Term) → fold (λ a s. a +ℤ added text name s) start (map (share_of (pos 1)) side) ≡ start +ℤ pos (amount_in (side_of text side) name)
left_added text name start [] = omega (arith, ints)
left_added text name start (t ∷ side) =
    let f : List ℕ × ℕ → ℕ = λ u. cond (bytes_eq u.0 name) u.1 0 in
    let more = sum_by-cons f (name_at text t, t.count) (side_of text side) in
    let one : added text name (share_of (pos 1) t) ≡ pos (f (name_at text t, t.count)) = elim (cases_Bool (bytes_eq (name_at text t) name)) [ inl hit ↦ rw hit (omega (arith, ints)) | inr miss ↦ rw miss refl ] in
    let rest = left_added text name (start +ℤ added text name (share_of (pos 1) t)) side in
    omega (arith, ints, more, one, rest)

pub right_added : (text name : List ℕ) (start : ℤ) (side : List Term) → fold (λ a s. a +ℤ added text name s) start (map (share_of (negsuc 0)) side) ≡ start -ℤ pos (amount_in (side_of text side) name)
right_added text name start [] = omega (arith, ints)
right_added text name start (t ∷ side) =
    let f : List ℕ × ℕ → ℕ = λ u. cond (bytes_eq u.0 name) u.1 0 in
    let more = sum_by-cons f (name_at text t, t.count) (side_of text side) in
    let one : added text name (share_of (negsuc 0) t) +ℤ pos (f (name_at text t, t.count)) ≡ pos 0 = elim (cases_Bool (bytes_eq (name_at text t) name)) [ inl hit ↦ rw hit (omega (arith, ints)) | inr miss ↦ rw miss refl ] in
    let rest = right_added text name (start +ℤ added text name (share_of (negsuc 0) t)) side in
    omega (arith, ints, more, one, rest)

-- ---- in the order of names

neither_first : (o p : Ordering) → o ≡ ordering_reverse p → is_lt o ≡ false → is_lt p ≡ false → is_eq o ≡ true
neither_first Less p e a b = absurd cc
neither_first Equal p e a b = refl
neither_first Greater Less e a b = absurd cc
neither_first Greater Equal e a b = absurd cc
neither_first Greater Greater e a b = absurd cc

same_place_in_order : (x y : List ℕ) → is_lt (slice_cmp nat_cmp x y) ≡ false → is_lt (slice_cmp nat_cmp y x) ≡ false → x ≡ y
same_place_in_order x y a b =
    let tied = neither_first (slice_cmp nat_cmp x y) (slice_cmp nat_cmp y x) (nat_list_cmp_total.antisymm x y) a b in
    (bytes_eq-Decides x y).0 (sym (is_eq-slice_cmp x y) ∙ tied)

-- shares of one name are adjacent
together : (text : List ℕ) (shares : List Share) (i j k : ℕ) (d : Share) → AreByName text shares → i ≤ j → j ≤ k → k < length shares → name_in text (get_or shares i d) ≡ name_in text (get_or shares k d)
    → name_in text (get_or shares j d) ≡ name_in text (get_or shares i d)
together text shares i j k d h le le' lt e =
    let before : Share → Share → Bool = λ a b. is_lt (slice_cmp nat_cmp (name_in text a) (name_in text b)) in
    let laws = ranks_by nat_list_cmp_total (name_in text) in
    let low = sorted_far before laws shares h i j d le (omega arith) in
    let high : is_lt (slice_cmp nat_cmp (name_in text (get_or shares i d)) (name_in text (get_or shares j d))) ≡ false = rw e (sorted_far before laws shares h j k d le' lt) in
    same_place_in_order (name_in text (get_or shares j d)) (name_in text (get_or shares i d)) low high

-- one share more
sum_more : (text : List ℕ) (shares : List Share) (name : List ℕ) (i : ℕ) (d : Share) → i < length shares → sum_in text (take (i + 1) shares) name ≡ sum_in text (take i shares) name +ℤ added text name (get_or shares i d)
sum_more text shares name i d lt = fold_more (λ a s. a +ℤ added text name s) (pos 0) shares i d lt

sum_yes : (text : List ℕ) (shares : List Share) (name : List ℕ) (i : ℕ) (d : Share) → i < length shares → name_in text (get_or shares i d) ≡ name → sum_in text (take (i + 1) shares) name ≡ sum_in text (take i shares) name +ℤ (get_or shares i d).count
sum_yes text shares name i d lt e =
    let hit = (bytes_eq-Decides (name_in text (get_or shares i d)) name).1 e in
    let more = sum_more text shares name i d lt in
    rw hit at more

sum_no : (text : List ℕ) (shares : List Share) (name : List ℕ) (i : ℕ) (d : Share) → i < length shares → (name_in text (get_or shares i d) ≡ name → ⊥) → sum_in text (take (i + 1) shares) name ≡ sum_in text (take i shares) name
sum_no text shares name i d lt ne =
    elim (cases_Bool (bytes_eq (name_in text (get_or shares i d)) name)) [
      | inl hit ↦ absurd (ne ((bytes_eq-Decides (name_in text (get_or shares i d)) name).0 hit))
      | inr miss ↦ let more = sum_more text shares name i d lt in let m = rw miss at more in omega (arith, ints, m)
    ]

-- shares of other names leave the sum
sum_stays : (text : List ℕ) (shares : List Share) (name : List ℕ) (i m : ℕ) (d : Share) → i + m ≤ length shares → ((j : ℕ) → i ≤ j → j < i + m → name_in text (get_or shares j d) ≡ name → ⊥)
    → sum_in text (take (i + m) shares) name ≡ sum_in text (take i shares) name
sum_stays text shares name i zero d le h = let e : i + 0 ≡ i = omega arith in ap (λ (k : ℕ). sum_in text (take k shares) name) e
sum_stays text shares name i (suc m) d le h =
    let e : i + suc m ≡ (i + m) + 1 = omega arith in
    let here = sum_no text shares name (i + m) d (omega arith) (h (i + m) (omega arith) (omega arith)) in
    let rest = sum_stays text shares name i m d (omega arith) (λ j a b. h j a (omega arith)) in
    ap (λ (k : ℕ). sum_in text (take k shares) name) e ∙ here ∙ rest

-- a name that is not the next one is done with
sum_done : (text : List ℕ) (shares : List Share) (name : List ℕ) (i : ℕ) (d : Share) → AreByName text shares → 0 < i → i < length shares → name_in text (get_or shares (i - 1) d) ≡ name
    → (name_in text (get_or shares i d) ≡ name → ⊥) → sum_in text shares name ≡ sum_in text (take i shares) name
sum_done text shares name i d h some lt last ne =
    let m = length shares - i in
    let all : i + m ≡ length shares = omega arith in
    let stays = sum_stays text shares name i m d (omega arith) (λ j a b e. ne (together text shares (i - 1) i j d h (omega arith) a (omega arith) (last ∙ sym e) ∙ last)) in
    sym (ap (λ (xs : List Share). sum_in text xs name) (take_all (i + m) shares (omega arith))) ∙ stays

-- and the next name has no share yet
sum_fresh : (text : List ℕ) (shares : List Share) (name : List ℕ) (i : ℕ) (d : Share) → AreByName text shares → 0 < i → i < length shares → name_in text (get_or shares (i - 1) d) ≡ name
    → (name_in text (get_or shares i d) ≡ name → ⊥) → sum_in text (take i shares) (name_in text (get_or shares i d)) ≡ pos 0
sum_fresh text shares name i d h some lt last ne =
    let next = name_in text (get_or shares i d) in
    let zero-add : 0 + i ≡ i = omega arith in
    let stays = sum_stays text shares next 0 i d (omega arith) (λ j a b e. ne (sym e ∙ sym (together text shares j (i - 1) i d h (omega arith) (omega arith) lt e) ∙ last)) in
    ap (λ (k : ℕ). sum_in text (take k shares) next) (sym zero-add) ∙ stays

-- ---- the loop over shares in the order of names

-- the last share, whatever the default is
last_is : (text : List ℕ) (shares : List Share) (i : ℕ) (d d' : Share) (name : List ℕ) → i < length shares → name_in text (get_or shares i d) ≡ name → name_in text (get_or shares (i + 1 - 1) d') ≡ name
last_is text shares i d d' name lt e =
    let at : i + 1 - 1 ≡ i = omega arith in
    ap (λ (k : ℕ). name_in text (get_or shares k d')) at ∙ ap (name_in text) (get_or_default shares i d' d lt) ∙ e

-- what a limit allows
abbrev pub is_within : ℤ → ℤ → Type 0
is_within limit sum = (pos 0 ≤ℤ sum) × (sum ≤ℤ limit)

-- the sum of the last name, with no more shares of the names before it
pub record IsSumming (text : List ℕ) (shares : List Share) (limit : ℤ) (i : ℕ) (name : List ℕ) (sum : ℤ) : Type 0 where
  pub last : (d : Share) → 0 < i → name_in text (get_or shares (i - 1) d) ≡ name
  pub is : sum ≡ sum_in text (take i shares) name
  pub others : (other : List ℕ) → (other ≡ name → ⊥) → is_within limit (sum_in text (take i shares) other)
  pub low : pos 0 ≤ℤ (sum +ℤ pos (2 ^ 31 * i))
  pub high : sum ≤ℤ pos (2 ^ 31 * i)

-- one share more of the same name
pub summing_more : (text : List ℕ) (shares : List Share) (limit : ℤ) (i : ℕ) (d : Share) (name : List ℕ) (sum : ℤ) → IsSumming text shares limit i name sum → i < length shares → name_in text (get_or shares i d) ≡ name
    → SFits w32 (get_or shares i d).count → IsSumming text shares limit (i + 1) name (sum +ℤ (get_or shares i d).count)
summing_more text shares limit i d name sum h lt e fits = record {
  last = λ d' some. last_is text shares i d d' name lt e;
  is = let more = sum_yes text shares name i d lt e in let is = h.is in omega (arith, ints, more, is);
  others = λ other ne. subst (is_within limit) (sym (sum_no text shares other i d lt (λ e'. ne (sym e' ∙ e)))) (h.others other ne);
  low = let low = h.low in omega (arith, ints, low, fits);
  high = let high = h.high in omega (arith, ints, high, fits);
}

-- the first share of another name, if the sum of the last one is within the limit
pub summing_next : (text : List ℕ) (shares : List Share) (limit : ℤ) (i : ℕ) (d : Share) (name : List ℕ) (sum : ℤ) → AreByName text shares → IsSumming text shares limit i name sum → i < length shares
    → (name_in text (get_or shares i d) ≡ name → ⊥) → is_within limit sum → SFits w32 (get_or shares i d).count → IsSumming text shares limit (i + 1) (name_in text (get_or shares i d)) (pos 0 +ℤ (get_or shares i d).count)
summing_next text shares limit i d name sum order h lt ne within fits =
    let next = name_in text (get_or shares i d) in
    let fresh : sum_in text (take i shares) next ≡ pos 0 = elim (cases_lt 0 i) [ inl some ↦ sum_fresh text shares name i d order some lt (h.last d some) ne | inr none ↦ let e : i ≡ 0 = omega arith in ap (λ (k : ℕ). sum_in text (take k shares) next) e ] in
    record {
      last = λ d' some. last_is text shares i d d' next lt refl;
      is = let more = sum_yes text shares next i d lt refl in omega (arith, ints, more, fresh);
      others = λ other other_ne. subst (is_within limit) (sym (sum_no text shares other i d lt (λ e. other_ne (sym e)))) (elim (cases_Bool (bytes_eq other name)) [
        | inl hit ↦ subst (is_within limit) (h.is ∙ ap (sum_in text (take i shares)) (sym ((bytes_eq-Decides other name).0 hit))) within
        | inr miss ↦ h.others other (λ e. absurd (let hit = (bytes_eq-Decides other name).1 e in cc))
      ]);
      low = omega (arith, ints, fits);
      high = omega (arith, ints, fits);
    }

-- the sum of a name that is done with is that of all shares
pub summing_stops : (text : List ℕ) (shares : List Share) (limit : ℤ) (i : ℕ) (d : Share) (name : List ℕ) (sum : ℤ) → AreByName text shares → IsSumming text shares limit i name sum → i < length shares
    → (name_in text (get_or shares i d) ≡ name → ⊥) → pos 0 ≤ℤ limit → (is_within limit sum → ⊥) → is_within limit (sum_in text shares name) → ⊥
summing_stops text shares limit i d name sum order h lt ne least over within = elim (cases_lt 0 i) [
  | inl some ↦ over (subst (is_within limit) (sum_done text shares name i d order some lt (h.last d some) ne ∙ sym h.is) within)
  | inr none ↦
      let e : i ≡ 0 = omega arith in
      let zero_sum : sum_in text (take i shares) name ≡ pos 0 = ap (λ (k : ℕ). sum_in text (take k shares) name) e in
      let is = h.is in
      over (omega (arith, ints, is, zero_sum), omega (arith, ints, is, zero_sum, least))
]

-- the same of what is equal
pub summing_at : (text : List ℕ) (shares : List Share) (i : ℕ) (limit limit' : ℤ) (name name' : List ℕ) (sum sum' : ℤ) → limit ≡ limit' → name ≡ name' → sum ≡ sum' → IsSumming text shares limit i name sum → IsSumming text shares limit' i name' sum'
summing_at text shares i limit limit' name name' sum sum' l n s h =
    subst (λ (u : ℤ). IsSumming text shares u i name' sum') l (subst (λ (u : List ℕ). IsSumming text shares limit i u sum') n (subst (λ (u : ℤ). IsSumming text shares limit i name u) s h))

-- ---- the numbers of a side

-- no number exceeds the limit of the sums
pub numbers_most : (text : List ℕ) (side : List Term) → ((name : List ℕ) → amount_in (side_of text side) name ≤ MAX_AMOUNT) → AllByRecursion (λ t. t.count ≤ MAX_AMOUNT) side
numbers_most text [] h = tt
numbers_most text (t ∷ side) h =
    let cons = λ (name : List ℕ). sum_by-cons (λ u. cond (bytes_eq u.0 name) u.1 0) (name_at text t, t.count) (side_of text side) in
    let name = name_at text t in
    let hit : bytes_eq name name ≡ true = (bytes_eq-Decides name name).1 refl in
    let one = cons name in
    let here = rw hit at one in
    let most = h name in
    (omega (arith, here, most), numbers_most text side (λ other. let more = cons other in let most' = h other in omega (arith, more, most')))

total_most : (side : List Term) → AllByRecursion (λ t. t.count ≤ MAX_AMOUNT) side → sum_by (λ t. t.count) side ≤ MAX_AMOUNT * length side
total_most [] h = omega arith
total_most (t ∷ side) h = let cons = sum_by-cons (λ (u : Term). u.count) t side in let rest = total_most side h.1 in let here = h.0 in omega (arith, cons, rest, here)

pub total_fits : (side : List Term) → AllByRecursion (λ t. t.count ≤ MAX_AMOUNT) side → length side ≤ MAX_TERMS → sum_by (λ t. t.count) side < 2 ^ 32
total_fits side h few = let most = total_most side h in omega (arith, most, few)

-- ---- a test of two names

pub names_differ : (x y : List ℕ) (test : Bool) → test ≡ not (bytes_eq x y) → test ≡ true → x ≡ y → ⊥
names_differ x y test is yes' e = let same = (bytes_eq-Decides x y).1 e in absurd (let h : not (bytes_eq x y) ≡ true = sym is ∙ yes' in let no' = rw same at h in cc)

pub names_agree : (x y : List ℕ) (test : Bool) → test ≡ not (bytes_eq x y) → test ≡ false → x ≡ y
names_agree x y test is no' = (bytes_eq-Decides x y).0 (elim (cases_Bool (bytes_eq x y)) [ inl hit ↦ hit | inr miss ↦ absurd (let h : not (bytes_eq x y) ≡ false = sym is ∙ no' in let yes' = rw miss at h in cc) ])
