-- What the complexes of a network reach is decided, and so are its terminal classes and its linked pairs.
use Rattle.crn_ctext.proofs.Prelude.{◌≡◌, ◌⊎◌, ◌<◌, ◌≤◌, ◌++◌, ◌∙◌, ℕ, zero, suc, Bool, true, false, List, [], ◌∷◌, length, refl, sym, ap, subst, inl, inr, arith, ℤ, Option, Some, None, slice_index_or, filter, range_with_len, cases_lt, length-append, Net, IsNetwork, IsLinked, IsReaction, ReactsTo, Reaches, SameStrong, IsTerminal, LeadsTo, IsBetween, IsFreeStep, IsOnSide, IsCutPair, IsTerminalPair, IsFirstOfPair, ArePairs, AreMarks, top_at, AreTops, inside_at, reaction_in, reached_marks, leads_here, leads_keeps, leads_back, strong_here, strong_then, strong_back, terminal_on, top_inside, some_is, none_some, filter_from, filter_has, filter_ascending, range_ascending, in_range, free_back, is_between, below_or, side_marks, side_inside}
use Rattle.crn_ctext.proofs.Decided.{IsDecided, both_decided, one_decided, not_decided, if_decided, moved, nat_decided, lt_decided}
use Rattle.crn_ctext.proofs.TestsDecided.{each_below, some_below, reacts_decided}

-- ---- walks

-- no step goes from past a bound, so a walk from there stays
leads_from_past : (n : ℕ) (Step : ℕ → ℕ → Type 0) → ((y z : ℕ) → Step y z → y < n) → (y z : ℕ) → n ≤ y → LeadsTo Step y z → y ≡ z
leads_from_past n Step inside y z past ([], e) = e
leads_from_past n Step inside y z past (x ∷ xs, s) = absurd (let lt = inside y x s.0 in omega (arith, lt, past))

-- if marks say what is led to, and no step leads out, it is decided
leads_decided : (n : ℕ) (Step : ℕ → ℕ → Type 0) → ((y z : ℕ) → Step y z → (y < n) × (z < n)) → ((y : ℕ) → y < n → (marks : List ℤ) × (length marks ≡ n) × AreMarks (LeadsTo Step y) marks) → (y z : ℕ) → IsDecided (LeadsTo Step y z)
leads_decided n Step inside marked y z = elim (cases_lt y n) [
  | inr past ↦ moved (λ e. subst (λ (v : ℕ). LeadsTo Step y v) e (leads_here Step y)) (λ w. leads_from_past n Step (λ a b s. (inside a b s).0) y z past w) (nat_decided y z)
  | inl ly ↦ let m = marked y ly in elim (cases_lt z n) [
    | inl lz ↦ elim (m.2 z (omega (arith, lz, m.1))) [ inl here ↦ inl here.0 | inr away ↦ inr away.0 ]
    | inr past ↦ inr (λ w. let lz = leads_keeps Step (λ v. v < n) (λ a b s l. (inside a b s).1) y z w ly in omega (arith, lz, past))
  ]
]

pub reaches_decided : (net : Net) → IsNetwork net → (y z : ℕ) → IsDecided (Reaches net.reactions y z)
reaches_decided net n y z =
    let rs = net.reactions in
    let joins = n.partial.apart in
    leads_decided (length net.complexes) (ReactsTo rs) (λ a b i. inside_at (length net.complexes) rs joins a b i) (λ t lt. reached_marks (length net.complexes) rs t joins lt) y z

pub same_decided : (net : Net) → IsNetwork net → (y z : ℕ) → IsDecided (SameStrong net.reactions y z)
same_decided net n y z = both_decided (reaches_decided net n y z) (reaches_decided net n z y)

-- a complex reaches complexes alone
reaches_inside : (net : Net) → IsNetwork net → (y z : ℕ) → y < length net.complexes → Reaches net.reactions y z → z < length net.complexes
reaches_inside net n y z lt w = leads_keeps (ReactsTo net.reactions) (λ v. v < length net.complexes) (λ a b i l. (inside_at (length net.complexes) net.reactions n.partial.apart a b i).1) y z w lt

pub terminal_decided : (net : Net) → IsNetwork net → (y : ℕ) → y < length net.complexes → IsDecided (IsTerminal net.reactions y)
terminal_decided net n y lt = moved (λ h z w. h z (reaches_inside net n y z lt w) w) (λ h z less w. h z w)
    (each_below (λ z. Reaches net.reactions y z → Reaches net.reactions z y) (λ z. if_decided (reaches_decided net n y z) (reaches_decided net n z y)) (length net.complexes))

-- ---- sides

linked_decided : (rs : List (ℕ × ℕ)) (y z : ℕ) → IsDecided (IsLinked rs y z)
linked_decided rs y z = one_decided (reacts_decided rs y z) (reacts_decided rs z y)

pub linked_inside : (net : Net) → IsNetwork net → (y z : ℕ) → IsLinked net.reactions y z → (y < length net.complexes) × (z < length net.complexes)
linked_inside net n y z (inl i) = inside_at (length net.complexes) net.reactions n.partial.apart y z i
linked_inside net n y z (inr i) = let h = inside_at (length net.complexes) net.reactions n.partial.apart z y i in (h.1, h.0)

-- whether a free walk leads from b, which is a complex
free_decided : (net : Net) → IsNetwork net → (a b c : ℕ) → b < length net.complexes → IsDecided (IsOnSide net.reactions a b c)
free_decided net n a b c lt =
    let m = side_marks (length net.complexes) a b net.reactions n.partial.apart lt in
    elim (cases_lt c (length net.complexes)) [
      | inl lc ↦ elim (m.2 c (omega (arith, lc, m.1))) [ inl here ↦ inl here.0 | inr away ↦ inr away.0 ]
      | inr past ↦ inr (λ w. let inside = side_inside (length net.complexes) a b net.reactions n.partial.apart lt c w in omega (arith, inside, past))
    ]

pub cut_pair_decided : (net : Net) → IsNetwork net → (y z : ℕ) → IsDecided (IsCutPair net.reactions y z)
cut_pair_decided net n y z = elim (linked_decided net.reactions y z) [
  | inr apart ↦ inr (λ c. let l = c.linked in apart l)
  | inl linked ↦
      let back : (v w : ℕ) → LeadsTo (IsFreeStep net.reactions y z) v w → LeadsTo (IsFreeStep net.reactions y z) w v = leads_back (IsFreeStep net.reactions y z) (free_back net.reactions y z) in
      let lz : z < length net.complexes = (linked_inside net n y z linked).1 in
      moved (λ h. record { linked = linked; cut = λ w. h (back y z w) }) (λ c w. let cut = c.cut in cut (back z y w)) (not_decided (free_decided net n y z y lz))
]

-- ---- terminal classes by first appearance

-- one more class at the end of a list
top_prefix : (ts : List (Option ℕ)) (o : Option ℕ) (y : ℕ) → y < length ts → top_at (ts ++ o ∷ []) y ≡ top_at ts y
top_prefix [] o y lt = absurd (omega (arith, lt))
top_prefix (t ∷ ts) o zero lt = refl
top_prefix (t ∷ ts) o (suc y) lt = top_prefix ts o y (omega (arith, lt))

top_last : (ts : List (Option ℕ)) (o : Option ℕ) (y : ℕ) → y ≡ length ts → top_at (ts ++ o ∷ []) y ≡ o
top_last [] o zero e = refl
top_last (t ∷ ts) o (suc y) e = top_last ts o y (omega (arith, e))
top_last ts o y e = absurd (omega (arith, e))

-- a class that is found is one of the list, or the last
top_cases : (ts : List (Option ℕ)) (o : Option ℕ) (y k : ℕ) → top_at (ts ++ o ∷ []) y ≡ Some k → (top_at ts y ≡ Some k) ⊎ ((y ≡ length ts) × (o ≡ Some k))
top_cases [] o zero k e = inr (refl, e)
top_cases [] o (suc y) k e = absurd (none_some None k refl e)
top_cases (t ∷ ts) o zero k e = inl e
top_cases (t ∷ ts) o (suc y) k e = elim (top_cases ts o y k e) [ inl h ↦ inl h | inr h ↦ inr (ap suc h.0, h.1) ]

-- the terminal classes of the first so many complexes
record TopsTo (net : Net) (n : ℕ) : Type 0 where
  tops : List (Option ℕ)
  count : ℕ
  long : length tops ≡ n
  inside : (y k : ℕ) → top_at tops y ≡ Some k → IsTerminal net.reactions y
  outside : (y : ℕ) → y < n → top_at tops y ≡ None → IsTerminal net.reactions y → ⊥
  same : (y z k : ℕ) → top_at tops y ≡ Some k → top_at tops z ≡ Some k → SameStrong net.reactions y z
  together : (y z k l : ℕ) → top_at tops y ≡ Some k → top_at tops z ≡ Some l → SameStrong net.reactions y z → k ≡ l
  numbered : (y k j : ℕ) → top_at tops y ≡ Some k → j < k → (x : ℕ) × (x < y) × (top_at tops x ≡ Some j)
  below : (y k : ℕ) → top_at tops y ≡ Some k → k < count
  each : (k : ℕ) → k < count → (y : ℕ) × (top_at tops y ≡ Some k)

top_option : (ts : List (Option ℕ)) (y : ℕ) → (top_at ts y ≡ None) ⊎ ((k : ℕ) × (top_at ts y ≡ Some k))
top_option ts y = by (top_at ts y) refl
  where
    by : (o : Option ℕ) → top_at ts y ≡ o → (top_at ts y ≡ None) ⊎ ((k : ℕ) × (top_at ts y ≡ Some k))
    by None e = inl e
    by (Some k) e = inr (k, e)

-- a class of the list is one of the longer list
top_more : (ts : List (Option ℕ)) (o : Option ℕ) (y k : ℕ) → top_at ts y ≡ Some k → top_at (ts ++ o ∷ []) y ≡ Some k
top_more ts o y k e = top_prefix ts o y (top_inside ts y k e) ∙ e

-- the next complex is in no terminal class
none_more : (net : Net) (n : ℕ) → TopsTo net n → (IsTerminal net.reactions n → ⊥) → TopsTo net (suc n)
none_more net n t other =
    let ts = t.tops ++ None ∷ [] in
    let long = t.long in
    let old : (y k : ℕ) → top_at ts y ≡ Some k → top_at t.tops y ≡ Some k = λ y k e. elim (top_cases t.tops None y k e) [ inl h ↦ h | inr h ↦ absurd (none_some None k refl h.1) ] in
    record {
      tops = ts;
      count = t.count;
      long = omega (arith, long, length-append t.tops (None ∷ []));
      inside = λ y k e. let f = t.inside in f y k (old y k e);
      outside = λ y lt e terminal. elim (below_or y n lt) [
        | inl less ↦ let f = t.outside in f y less (sym (top_prefix t.tops None y (omega (arith, less, long))) ∙ e) terminal
        | inr last ↦ other (subst (IsTerminal net.reactions) last terminal)
      ];
      same = λ y z k e f. let g = t.same in g y z k (old y k e) (old z k f);
      together = λ y z k l e f s. let g = t.together in g y z k l (old y k e) (old z l f) s;
      numbered = λ y k j e less. let f = t.numbered in let x = f y k j (old y k e) less in (x.0, x.1, top_more t.tops None x.0 j x.2);
      below = λ y k e. let f = t.below in f y k (old y k e);
      each = λ k lt. let f = t.each in let y = f k lt in (y.0, top_more t.tops None y.0 k y.1);
    }

-- what is asked of the class j of the next complex
record IsNext (net : Net) (n : ℕ) (t : TopsTo net n) (j count : ℕ) : Type 0 where
  same : (y : ℕ) → top_at t.tops y ≡ Some j → SameStrong net.reactions y n
  together : (y k : ℕ) → top_at t.tops y ≡ Some k → SameStrong net.reactions y n → k ≡ j
  numbered : (i : ℕ) → i < j → (x : ℕ) × (x < n) × (top_at t.tops x ≡ Some i)
  more : t.count ≤ count
  inside : j < count
  each : (k : ℕ) → k < count → (k < t.count) ⊎ (k ≡ j)

some_more : (net : Net) (n : ℕ) (t : TopsTo net n) (j count : ℕ) → IsTerminal net.reactions n → IsNext net n t j count → TopsTo net (suc n)
some_more net n t j count terminal next =
    let rs = net.reactions in
    let ts = t.tops ++ Some j ∷ [] in
    let long = t.long in
    let more = next.more in
    let here : top_at ts n ≡ Some j = top_last t.tops (Some j) n (sym long) in
    let found : (y k : ℕ) → top_at ts y ≡ Some k → (top_at t.tops y ≡ Some k) ⊎ ((y ≡ n) × (j ≡ k)) = λ y k e. elim (top_cases t.tops (Some j) y k e) [ inl h ↦ inl h | inr h ↦ inr (h.0 ∙ long, some_is j k h.1) ] in
    record {
      tops = ts;
      count = count;
      long = omega (arith, long, length-append t.tops (Some j ∷ []));
      inside = λ y k e. elim (found y k e) [ inl h ↦ (let f = t.inside in f y k h) | inr h ↦ subst (IsTerminal rs) (sym h.0) terminal ];
      outside = λ y lt e terminal. elim (below_or y n lt) [
        | inl less ↦ let f = t.outside in f y less (sym (top_prefix t.tops (Some j) y (omega (arith, less, long))) ∙ e) terminal
        | inr last ↦ none_some (top_at ts y) j e (ap (top_at ts) last ∙ here)
      ];
      same = λ y z k e f. elim (found y k e) [
        | inl a ↦ elim (found z k f) [
          | inl b ↦ let g = t.same in g y z k a b
          | inr b ↦ let g = next.same in subst (λ (v : ℕ). SameStrong rs y v) (sym b.0) (g y (a ∙ ap Some (sym b.1)))
        ]
        | inr a ↦ elim (found z k f) [
          | inl b ↦ let g = next.same in strong_back rs z y (subst (λ (v : ℕ). SameStrong rs z v) (sym a.0) (g z (b ∙ ap Some (sym a.1))))
          | inr b ↦ subst (λ (v : ℕ). SameStrong rs y v) (a.0 ∙ sym b.0) (strong_here rs y)
        ]
      ];
      together = λ y z k l e f s. elim (found y k e) [
        | inl a ↦ elim (found z l f) [
          | inl b ↦ let g = t.together in g y z k l a b s
          | inr b ↦ let g = next.together in g y k a (subst (λ (v : ℕ). SameStrong rs y v) b.0 s) ∙ b.1
        ]
        | inr a ↦ elim (found z l f) [
          | inl b ↦ let g = next.together in sym a.1 ∙ sym (g z l b (subst (λ (v : ℕ). SameStrong rs z v) a.0 (strong_back rs y z s)))
          | inr b ↦ sym a.1 ∙ b.1
        ]
      ];
      numbered = λ y k i e less. elim (found y k e) [
        | inl a ↦ let f = t.numbered in let x = f y k i a less in (x.0, x.1, top_more t.tops (Some j) x.0 i x.2)
        | inr a ↦ let f = next.numbered in let x = f i (omega (arith, less, a.1)) in (x.0, omega (arith, x.1, a.0), top_more t.tops (Some j) x.0 i x.2)
      ];
      below = λ y k e. elim (found y k e) [ inl a ↦ (let f = t.below in let lt = f y k a in omega (arith, lt, more)) | inr a ↦ (let lt = next.inside in omega (arith, lt, a.1)) ];
      each = λ k lt. let f = next.each in elim (f k lt) [
        | inl less ↦ let g = t.each in let y = g k less in (y.0, top_more t.tops (Some j) y.0 k y.1)
        | inr e ↦ (n, here ∙ ap Some (sym e))
      ];
    }

-- the class of an earlier complex
known_next : (net : Net) (n x k : ℕ) (t : TopsTo net n) → x < n → SameStrong net.reactions x n → top_at t.tops x ≡ Some k → IsNext net n t k t.count
known_next net n x k t lt s e =
    let rs = net.reactions in
    record {
      same = λ y f. let g = t.same in strong_then rs y x n (g y x k f e) s;
      together = λ y l f to. let g = t.together in g y x l k f e (strong_then rs y n x to (strong_back rs x n s));
      numbered = λ i less. let f = t.numbered in let y = f x k i e less in (y.0, omega (arith, y.1, lt), y.2);
      more = omega arith;
      inside = let f = t.below in f x k e;
      each = λ l less. inl less;
    }

-- a class of its own
new_next : (net : Net) (n : ℕ) (t : TopsTo net n) → ((x : ℕ) → x < n → SameStrong net.reactions x n → ⊥) → IsNext net n t t.count (suc t.count)
new_next net n t none =
    let long = t.long in
    record {
      same = λ y e. absurd (let f = t.below in let lt = f y t.count e in omega (arith, lt));
      together = λ y k e s. absurd (none y (let lt = top_inside t.tops y k e in omega (arith, lt, long)) s);
      numbered = λ i less. let f = t.each in let y = f i less in (y.0, (let lt = top_inside t.tops y.0 i y.1 in omega (arith, lt, long)), y.1);
      more = omega arith;
      inside = omega arith;
      each = λ k lt. elim (cases_lt k t.count) [ inl less ↦ inl less | inr more ↦ inr (omega (arith, lt, more)) ];
    }

one_more : (net : Net) → IsNetwork net → (n : ℕ) → n < length net.complexes → TopsTo net n → TopsTo net (suc n)
one_more net w n lt t = elim (terminal_decided net w n lt) [
  | inr other ↦ none_more net n t other
  | inl terminal ↦ elim (some_below (λ x. SameStrong net.reactions x n) (λ x. same_decided net w x n) n) [
    | inr none ↦ some_more net n t t.count (suc t.count) terminal (new_next net n t (λ x less s. none (x, less, s)))
    | inl x ↦ elim (top_option t.tops x.0) [
      | inl e ↦ absurd (let f = t.outside in f x.0 x.1 e (terminal_on net.reactions n x.0 terminal x.2.1))
      | inr k ↦ some_more net n t k.0 t.count terminal (known_next net n x.0 k.0 t x.1 x.2 k.1)
    ]
  ]
]

tops_to : (net : Net) → IsNetwork net → (n : ℕ) → n ≤ length net.complexes → TopsTo net n
tops_to net w zero le = record {
  tops = [];
  count = 0;
  long = refl;
  inside = λ y k e. absurd (none_some None k refl e);
  outside = λ y lt e terminal. omega (arith, lt);
  same = λ y z k e f. absurd (none_some None k refl e);
  together = λ y z k l e f s. absurd (none_some None k refl e);
  numbered = λ y k j e less. absurd (none_some None k refl e);
  below = λ y k e. absurd (none_some None k refl e);
  each = λ k lt. absurd (omega (arith, lt));
}
tops_to net w (suc n) le = one_more net w n (omega (arith, le)) (tops_to net w n (omega (arith, le)))

-- the terminal classes of a network
pub networks_have_tops : (net : Net) → IsNetwork net → (tops : List (Option ℕ)) × (count : ℕ) × AreTops net tops count
networks_have_tops net w =
    let t = tops_to net w (length net.complexes) (omega arith) in
    (t.tops, t.count, record { long = t.long; inside = t.inside; outside = t.outside; same = t.same; together = t.together; numbered = t.numbered; below = t.below; each = t.each })

-- ---- linked pairs

terminal_pair_decided : (net : Net) → IsNetwork net → (y z : ℕ) → y < length net.complexes → IsDecided (IsTerminalPair net.reactions y z)
terminal_pair_decided net n y z lt = moved (λ h. record { linked = h.0; within = h.1.0; terminal = h.1.1 }) (λ p. (p.linked, (p.within, p.terminal)))
    (both_decided (linked_decided net.reactions y z) (both_decided (same_decided net n y z) (terminal_decided net n y lt)))

-- no reaction before r joins y and z
abbrev IsFirstFor : Net → ℕ → ℕ → ℕ → Type 0
IsFirstFor net r y z = (q : ℕ) → q < r → (v w : ℕ) → IsReaction net.reactions q v w → IsBetween y z v w → ⊥

first_for_decided : (net : Net) (r y z : ℕ) → IsDecided (IsFirstFor net r y z)
first_for_decided net r y z = each_below (λ q. (v w : ℕ) → IsReaction net.reactions q v w → IsBetween y z v w → ⊥) by r
  where
    by : (q : ℕ) → IsDecided ((v w : ℕ) → IsReaction net.reactions q v w → IsBetween y z v w → ⊥)
    by q =
        let at = slice_index_or net.reactions q (0, 0) in
        elim (lt_decided q (length net.reactions)) [
          | inr past ↦ inl (λ v w i b. past i.0)
          | inl lt ↦ elim (is_between y z at.0 at.1) [
            | inl b ↦ inr (λ h. h at.0 at.1 (lt, refl) b)
            | inr other ↦ inl (λ v w i b. other (subst (λ (p : ℕ × ℕ). IsBetween y z p.0 p.1) (sym i.1) b))
          ]
        ]

first_decided : (net : Net) → IsNetwork net → (r : ℕ) → IsDecided (IsFirstOfPair net.reactions r)
first_decided net n r = elim (lt_decided r (length net.reactions)) [
  | inr past ↦ inr (λ f. let g = f.goes in past g.0)
  | inl lt ↦
      let at = slice_index_or net.reactions r (0, 0) in
      let same : (f : IsFirstOfPair net.reactions r) → at ≡ (f.a, f.b) = λ f. let g = f.goes in g.1 in
      let ends = n.partial.apart in
      moved (λ h. record { a = at.0; b = at.1; goes = (lt, refl); pair = h.0; first = λ q v w less i b. h.1 q less v w i b })
      (λ f. (subst (λ (p : ℕ × ℕ). IsTerminalPair net.reactions p.0 p.1) (sym (same f)) f.pair, subst (λ (p : ℕ × ℕ). IsFirstFor net r p.0 p.1) (sym (same f)) (λ q less v w i b. let g = f.first in g q v w less i b)))
      (both_decided (terminal_pair_decided net n at.0 at.1 (start r lt)) (first_for_decided net r at.0 at.1))
]
  where
    start : (r : ℕ) → r < length net.reactions → (slice_index_or net.reactions r (0, 0)).0 < length net.complexes
    start r lt = (inside_at (length net.complexes) net.reactions n.partial.apart (slice_index_or net.reactions r (0, 0)).0 (slice_index_or net.reactions r (0, 0)).1 (reaction_in net.reactions r ((slice_index_or net.reactions r (0, 0)).0, (slice_index_or net.reactions r (0, 0)).1) lt refl)).0

-- whether it holds
holds : {P : Type 0} → IsDecided P → Bool
holds (inl p) = true
holds (inr p) = false

holds_true : {P : Type 0} → (d : IsDecided P) → holds d ≡ true → P
unfolding holds
holds_true (inl p) e = p
holds_true (inr p) e = absurd cc

true_holds : {P : Type 0} → (d : IsDecided P) → P → holds d ≡ true
unfolding holds
true_holds (inl p) q = refl
true_holds (inr p) q = absurd (p q)

-- the linked pairs within terminal classes of a network
pub networks_have_pairs : (net : Net) → IsNetwork net → (places : List ℕ) × ArePairs net.reactions places
networks_have_pairs net n =
    let test : ℕ → Bool = λ r. holds (first_decided net n r) in
    let all = range_with_len 0 (length net.reactions) in (
      filter test all,
      record {
        ascending = filter_ascending test all (range_ascending 0 (length net.reactions));
        each = λ r. (
          (λ i. holds_true (first_decided net n r) (filter_from test all r i).1),
          (λ f. filter_has test all r (in_range r 0 (length net.reactions) (omega arith) (let g = f.goes in omega (arith, g.0))) (true_holds (first_decided net n r) f)),
        );
      },
    )
