-- The pair of a side, found as the first reaction that joins complexes of different marks.
use Rattle.crn_shape.proofs.Prelude.{◌≡◌, ℕ, ◌*◌, ◌<◌, ◌≤◌, List, [], ◌∷◌, length, refl, sym, ap, subst, ◌∙◌, inl, inr, arith, ℤ, ◌*ℤ◌, Option, Some, unsigned_abs, AllByRecursion, ints, WIDE_SOLUTION, MAX_AMOUNT, MAX_COMPLEXES, Net, IsNetwork, IsLinked, AreWithin, dot, entry, IsReaction, IsBetween, IsFreeStep, IsOnSide, IsTerminalPair, IsFirstOfPair, AreMarks, IsRegular, top_at, AreTops, lt_or, within_from, dot-comm, inside_at, reaction_in, leads_here, leads_back, mark_yes, mark_no, other_step, free_back, product_within, sum_within, some_top, IsNarrow, IsSideOf, LinkedPair, ends_of, IsPairIn, IsFirstAcross, IsSide, IsPairFor}

-- ---- the two complexes of the pair

record Known (net : Net) (r y z : ℕ) : Type 0 where
  pair : IsTerminalPair net.reactions y z
  first : (q a b : ℕ) → q < r → IsReaction net.reactions q a b → IsBetween y z a b → ⊥
  low : y < length net.complexes
  high : z < length net.complexes

known : (net : Net) (r : ℕ) (marks : List ℤ) → IsNetwork net → IsFirstOfPair net.reactions r → (s : IsSideOf net r marks) → Known net r s.y s.z
known net r marks n f s =
    let ends : (f.a, f.b) ≡ (s.y, s.z) = sym f.goes.1 ∙ s.goes.1 in
    let inside = inside_at (length net.complexes) net.reactions n.partial.apart s.y s.z (reaction_in net.reactions r (s.y, s.z) s.goes.0 s.goes.1) in
    record {
      pair = subst (λ (w : ℕ × ℕ). IsTerminalPair net.reactions w.0 w.1) ends f.pair;
      first = subst (λ (w : ℕ × ℕ). (q a b : ℕ) → q < r → IsReaction net.reactions q a b → IsBetween w.0 w.1 a b → ⊥) ends f.first;
      low = inside.0;
      high = inside.1;
    }

-- ---- the first reaction across

pub side_across : (net : Net) (marks : List ℤ) (r : ℕ) → IsNetwork net → IsRegular net → IsFirstOfPair net.reactions r → IsSideOf net r marks → IsFirstAcross net marks r
side_across net marks r n regular f s =
    let rs = net.reactions in
    let k = known net r marks n f s in
    let step = IsFreeStep rs s.y s.z in
    let cut = regular.cut_pairs s.y s.z k.pair in
    let high = mark_yes (IsOnSide rs s.y s.z s.z) (entry marks s.z) (leads_here step s.z) (s.right s.z (omega (arith, k.high, s.long))) in
    let low = mark_no (IsOnSide rs s.y s.z s.y) (entry marks s.y) (λ on. cut.cut (leads_back step (free_back rs s.y s.z) s.z s.y on)) (s.right s.y (omega (arith, k.low, s.long))) in
    record {
      inside = s.goes.0;
      across = subst (λ (w : ℕ × ℕ). entry marks w.0 ≡ entry marks w.1 → ⊥) (sym s.goes.1) (λ e. omega (arith, ints, high, low, e));
      first = λ q lt across.
          let u = ends_of net q in
          let inside : q < length rs = omega (arith, lt, s.goes.0) in
          let goes : IsReaction rs q u.0 u.1 = (inside, refl) in
          let ends = inside_at (length net.complexes) rs n.partial.apart u.0 u.1 (reaction_in rs q (u.0, u.1) inside refl) in
          let linked : IsLinked rs u.0 u.1 = inl (reaction_in rs q (u.0, u.1) inside refl) in
          let free : IsFreeStep rs s.y s.z u.0 u.1 = (linked, k.first q u.0 u.1 lt goes) in
          let same = other_step rs s.y s.z u.0 u.1 marks s.right (omega (arith, ends.0, s.long)) (omega (arith, ends.1, s.long)) free in
          across (omega (arith, ints, same));
    }

first_one : (net : Net) (marks : List ℤ) (p q : ℕ) → IsFirstAcross net marks p → IsFirstAcross net marks q → p ≡ q
first_one net marks p q a b = elim (lt_or p q) as (λ _. p ≡ q) [
  | inl less ↦ absurd (b.first p less a.across)
  | inr most ↦ elim (lt_or q p) as (λ _. p ≡ q) [
    | inl less ↦ absurd (a.first q less b.across)
    | inr least ↦ omega (arith, most, least)
  ]
]

-- ---- its class and its sum

pub top_there : (net : Net) (marks : List ℤ) (tops : List (Option ℕ)) (count p : ℕ) → IsNetwork net → IsRegular net → AreTops net tops count → IsSide net marks → IsFirstAcross net marks p → (k : ℕ) × (top_at tops (ends_of net p).0 ≡ Some k)
top_there net marks tops count p n regular t side across =
    let k = known net side.r marks n side.first side.side in
    let same : side.r ≡ p = first_one net marks side.r p (side_across net marks side.r n regular side.first side.side) across in
    let ends : (side.side.y, side.side.z) ≡ ends_of net p = sym side.side.goes.1 ∙ ap (ends_of net) same in
    subst (λ (w : ℕ × ℕ). (k : ℕ) × (top_at tops w.0 ≡ Some k)) ends (some_top net tops count side.side.y t k.low k.pair.terminal)

pub pair_for : (net : Net) (g : List ℤ) (tops : List (Option ℕ)) (marks : List ℤ) (p : LinkedPair) → IsNetwork net → IsRegular net → length g ≡ length net.complexes → IsFirstAcross net marks p.reaction → top_at tops (ends_of net p.reaction).0 ≡ Some p.top → p.sum ≡ dot g marks → IsPairFor net g tops marks p
pair_for net g tops marks p n regular even across top sum = (
  across.inside,
  λ r f s.
      let rs = net.reactions in
      let same : r ≡ p.reaction = first_one net marks r p.reaction (side_across net marks r n regular f s) across in
      let ends : (s.y, s.z) ≡ ends_of net p.reaction = sym s.goes.1 ∙ ap (ends_of net) same in
      record {
        goes = (s.goes.0, ap (ends_of net) same);
        top = top;
        sum = record {
          marks = marks;
          long = s.long ∙ sym even;
          right = subst (λ (w : ℕ × ℕ). AreMarks (IsOnSide rs w.0 w.1) marks) ends s.right;
          is = dot-comm marks g ∙ sym sum;
        };
      },
)

-- ---- sizes

pub narrow_within : (g : List ℤ) → AllByRecursion IsNarrow g → AreWithin WIDE_SOLUTION g
narrow_within [] h = tt
narrow_within (x ∷ g) h = (omega (arith, h.0), narrow_within g h.1)

pub marks_within : (net : Net) (marks : List ℤ) → IsSide net marks → AreWithin MAX_AMOUNT marks
marks_within net marks side = within_from MAX_AMOUNT marks (λ k lt. elim (side.side.right k lt) as (λ _. unsigned_abs (entry marks k) ≤ MAX_AMOUNT) [
  | inl h ↦ omega (arith, ints, ap unsigned_abs h.1)
  | inr h ↦ omega (arith, ints, ap unsigned_abs h.1)
])

pub dot_within : (m k : ℕ) (xs ys : List ℤ) → AreWithin m xs → AreWithin k ys → unsigned_abs (dot xs ys) ≤ length xs * (m * k)
dot_within m k [] ys f g = omega arith
dot_within m k (x ∷ xs) [] f g = omega arith
dot_within m k (x ∷ xs) (y ∷ ys) f g =
    let more = sum_within (x *ℤ y) (dot xs ys) (m * k) (length xs * (m * k)) (product_within x y m k f.0 g.0) (dot_within m k xs ys f.1 g.1) in
    omega (arith, more)

pub pair_in : (net : Net) (g marks : List ℤ) (p : LinkedPair) → length g ≡ length net.complexes → length net.complexes ≤ MAX_COMPLEXES → AllByRecursion IsNarrow g → IsSide net marks → IsFirstAcross net marks p.reaction → p.sum ≡ dot g marks → IsPairIn net p
pair_in net g marks p long few narrow side across sum = record {
  inside = across.inside;
  small = omega (arith, long, few, ap unsigned_abs sum, dot_within WIDE_SOLUTION MAX_AMOUNT g marks (narrow_within g narrow) (marks_within net marks side));
}
