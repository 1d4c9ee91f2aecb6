-- A regular network whose confluence space is a line has a confluence vector, and as good as one.
use Rattle.crn_vec.proofs.Prelude.{◌≡◌, ◌≢◌, ◌⊎◌, ℕ, zero, suc, ◌<◌, List, [], ◌∷◌, length, refl, sym, ap, subst, ◌∙◌, inl, inr, arith, ℤ, pos, negsuc, ◌*ℤ◌, ◌≤ℤ◌, neg_ℤ, AllByRecursion, ints, IsIn, Net, IsNetwork, JoinsTwo, IsLinked, SameClass, entry, dot, column, combination_at, IsNumberOf, Reaches, SameStrong, IsTerminal, StaysStrong, IsWeaklyReversible, AreMarks, SumsTo, IsComplex, IsPositiveDependence, IsRegular, InConfluenceSpace, HasConfluenceLine, IsNonzero, GathersAt, IsConfluenceVector, ArePositiveMultiples, negative, ConfluenceVectorsAreOne}
use Rattle.std.specs.Prelude.{◌↔◌}
use lib.IntN.{*ℤ_comm, *ℤ-zero, zero-*ℤ}
use Rattle.crn_vec.proofs.Ring.{no_zero, mul-neg, is_zero, neg-mul, minus_one}
use Rattle.crn_vec.proofs.KindLaws.{up_up}
use Rattle.crn_vec.proofs.Orthogonal.{length-listed}
use Rattle.crn_vec.proofs.Sums.{dot-comm, dot-scale, dot_zero, entry-scale, length-scale}
use Rattle.crn_vec.proofs.WalkLaws.{class_then, class_back, class_link, strong_then, strong_back, strong_here, strong_class, leads_keeps, reaches_then, reaches_step, weakly_reversible_by_reactions}
use Rattle.crn_vec.proofs.Flows.{gain, unit, flow, flow_sum, gain_same, gain_raised, none_gained}
use Rattle.crn_vec.proofs.Reached.{inside_at, terminal_marks}
use Rattle.crn_vec.proofs.SumLaws.{sums_one, sums_for, sum_by, sum_scaled, dot_ratio}
use Rattle.crn_vec.proofs.Carried.{length-column, gain_made}

-- ---- marks of classes along reactions

-- a mark is 1 if the property holds
mark_is : (P : ℕ → Type 0) (m : List ℤ) → AreMarks P m → (y : ℕ) → y < length m → P y → entry m y ≡ pos 1
mark_is P m r y l p = elim (r y l) [ inl h ↦ h.1 | inr h ↦ absurd (h.0 p) ]

mark_says : (P : ℕ → Type 0) (m : List ℤ) → AreMarks P m → (y : ℕ) → y < length m → entry m y ≡ pos 1 → P y
mark_says P m r y l e = elim (r y l) [ inl h ↦ h.0 | inr h ↦ absurd (omega (arith, ints, h.1, e)) ]

-- marks of a property that goes along reactions both ways are kept
class_same : (n : ℕ) (rs : List (ℕ × ℕ)) (P : ℕ → Type 0) (m : List ℤ) → AllByRecursion (JoinsTwo n) rs → length m ≡ n → AreMarks P m
    → ((y z : ℕ) → IsIn (y, z) rs → P y → P z) → ((y z : ℕ) → IsIn (y, z) rs → P z → P y) → (y z : ℕ) → IsIn (y, z) rs → entry m y ≡ entry m z
class_same n rs P m inside l r on back y z i =
    let at = inside_at n rs inside y z i in
    elim (r y (omega (arith, at.0, l))) [
      | inl p ↦ p.1 ∙ sym (mark_is P m r z (omega (arith, at.1, l)) (on y z i p.0))
      | inr p ↦ elim (r z (omega (arith, at.1, l))) [ inl q ↦ absurd (p.0 (back y z i q.0)) | inr q ↦ p.1 ∙ sym q.1 ]
    ]

-- and of one that goes along reactions forwards are raised
class_raised : (n : ℕ) (rs : List (ℕ × ℕ)) (P : ℕ → Type 0) (m : List ℤ) → AllByRecursion (JoinsTwo n) rs → length m ≡ n → AreMarks P m
    → ((y z : ℕ) → IsIn (y, z) rs → P y → P z) → (y z : ℕ) → IsIn (y, z) rs → entry m y ≤ℤ entry m z
class_raised n rs P m inside l r on y z i =
    let at = inside_at n rs inside y z i in
    elim (r y (omega (arith, at.0, l))) [
      | inl p ↦ let e = mark_is P m r z (omega (arith, at.1, l)) (on y z i p.0) in omega (arith, ints, p.1, e)
      | inr p ↦ elim (r z (omega (arith, at.1, l))) [ inl q ↦ omega (arith, ints, p.1, q.1) | inr q ↦ omega (arith, ints, p.1, q.1) ]
    ]

-- a terminal class goes along reactions
terminal_goes : (rs : List (ℕ × ℕ)) (t y z : ℕ) → IsTerminal rs t → IsIn (y, z) rs → SameStrong rs t y → SameStrong rs t z
terminal_goes rs t y z term i p =
    let there : Reaches rs t z = reaches_then rs t y z p.0 (reaches_step rs y z i) in
    (there, term z there)

-- ---- the flow of a positive dependence

-- it sums over a property to what the reactions add to the marks
flow_over : (n : ℕ) (rs : List (ℕ × ℕ)) (bs : List ℤ) (P : ℕ → Type 0) (m : List ℤ) → length m ≡ n → AreMarks P m → SumsTo (flow n rs bs) P (gain rs bs (entry m))
flow_over n rs bs P m l r =
    record {
      marks = m;
      long = l ∙ sym (length-listed n (λ y. gain rs bs (unit y)));
      right = r;
      is = dot-comm m (flow n rs bs) ∙ ap (λ (k : ℕ). dot (flow k rs bs) m) (sym l) ∙ flow_sum rs bs m;
    }

-- what the proof depends on: the network, a positive dependence, and the line
record Setting (net : Net) : Type 0 where
  network : IsNetwork net
  regular : IsRegular net
  line : HasConfluenceLine net
  bs : List ℤ
  positive : IsPositiveDependence net bs

abbrev carried : (net : Net) → Setting net → List ℤ
carried net s = flow (length net.complexes) net.reactions s.bs

abbrev inside : (net : Net) → Setting net → AllByRecursion (JoinsTwo (length net.complexes)) net.reactions
inside net s = s.network.partial.apart

carried_long : (net : Net) (s : Setting net) → length (carried net s) ≡ length net.complexes
carried_long net s = length-listed (length net.complexes) (λ y. gain net.reactions s.bs (unit y))

carried_over : (net : Net) (s : Setting net) (P : ℕ → Type 0) (m : List ℤ) → length m ≡ length net.complexes → AreMarks P m → SumsTo (carried net s) P (gain net.reactions s.bs (entry m))
carried_over net s P m l r = flow_over (length net.complexes) net.reactions s.bs P m l r

-- as a combination of the complexes the flow is the combination of the reactions, which is zero
carried_balance : (net : Net) (s : Setting net) (k : ℕ) → combination_at (carried net s) net.complexes k ≡ pos 0
carried_balance net s k =
    let col = column net.complexes k in
    ap (λ (n : ℕ). dot (flow n net.reactions s.bs) col) (sym (length-column net.complexes k))
    ∙ flow_sum net.reactions s.bs col
    ∙ gain_made net (length net.names) net.reactions s.bs k s.network.partial.vectors (inside net s)
    ∙ s.positive.zero_sum k

-- the reactions stay within linkage classes
carried_classes : (net : Net) (s : Setting net) (y : ℕ) → IsComplex net y → SumsTo (carried net s) (SameClass net.reactions y) (pos 0)
carried_classes net s y lt =
    let rs = net.reactions in
    let g = s.line.some.0 in
    let over = s.line.some.1.classes y lt in
    let m = over.marks in
    let long : length m ≡ length net.complexes = over.long ∙ s.line.some.1.long in
    let same = class_same (length net.complexes) rs (SameClass rs y) m (inside net s) long over.right
    (λ v w i p. class_then rs y v w p (class_link rs v w (inl i)))
    (λ v w i p. class_then rs y w v p (class_link rs w v (inr i))) in
    subst (λ (x : ℤ). SumsTo (carried net s) (SameClass rs y) x) (gain_same rs s.bs (entry m) same) (carried_over net s (SameClass rs y) m long over.right)

carried_space : (net : Net) (s : Setting net) → InConfluenceSpace net (carried net s)
carried_space net s = record { long = carried_long net s; balance = carried_balance net s; classes = carried_classes net s }

-- ---- terminal classes

-- marks of a terminal class, which the reactions raise
record Terminal (net : Net) (t : ℕ) : Type 0 where
  marks : List ℤ
  long : length marks ≡ length net.complexes
  right : AreMarks (SameStrong net.reactions t) marks
  raised : (y z : ℕ) → IsIn (y, z) net.reactions → entry marks y ≤ℤ entry marks z

terminal_at : (net : Net) (s : Setting net) (t : ℕ) → IsComplex net t → IsTerminal net.reactions t → Terminal net t
terminal_at net s t lt term =
    let rs = net.reactions in
    let m = terminal_marks (length net.complexes) rs t (inside net s) lt term in
    record {
      marks = m.0;
      long = m.1;
      right = m.2;
      raised = class_raised (length net.complexes) rs (SameStrong rs t) m.0 (inside net s) m.1 m.2 (λ y z i p. terminal_goes rs t y z term i p);
    }

carried_gathers : (net : Net) (s : Setting net) (t : ℕ) → IsComplex net t → IsTerminal net.reactions t → GathersAt net (carried net s) t
carried_gathers net s t lt term =
    let m = terminal_at net s t lt term in
    (gain net.reactions s.bs (entry m.marks), carried_over net s (SameStrong net.reactions t) m.marks m.long m.right, gain_raised net.reactions s.bs (entry m.marks) s.positive.positive m.raised)

-- if nothing flows into a terminal class, it is its linkage class
none_enters : (net : Net) (s : Setting net) (t : ℕ) → IsComplex net t → (m : Terminal net t) → gain net.reactions s.bs (entry m.marks) ≡ pos 0
    → (z : ℕ) → SameClass net.reactions t z → SameStrong net.reactions t z
none_enters net s t lt m none z walk =
    let rs = net.reactions in
    let kept : (y z : ℕ) → IsIn (y, z) rs → entry m.marks y ≡ entry m.marks z =
    none_gained rs s.bs (entry m.marks) (s.positive.long) s.positive.positive m.raised none in
    let step : (v w : ℕ) → IsLinked rs v w → SameStrong rs t v → SameStrong rs t w = λ v w link p. elim link [
      | inl i ↦ let at = inside_at (length net.complexes) rs (inside net s) v w i in
          mark_says (SameStrong rs t) m.marks m.right w (omega (arith, at.1, m.long)) (sym (kept v w i) ∙ mark_is (SameStrong rs t) m.marks m.right v (omega (arith, at.0, m.long)) p)
      | inr i ↦ let at = inside_at (length net.complexes) rs (inside net s) w v i in
          mark_says (SameStrong rs t) m.marks m.right w (omega (arith, at.0, m.long)) (kept w v i ∙ mark_is (SameStrong rs t) m.marks m.right v (omega (arith, at.1, m.long)) p)
    ] in
    leads_keeps (IsLinked rs) (SameStrong rs t) step t z walk (strong_here rs t)

-- one class with the property: one complex that has it
one_of : (P : ℕ → Type 0) (Same : ℕ → ℕ → Type 0) → IsNumberOf P Same 1 → (t : ℕ) × P t
one_of P Same ([], r, e) = absurd (omega arith)
one_of P Same (t ∷ ts, r, e) = (t, r.members t (inl refl))

-- if each terminal class is its linkage class, the network is weakly reversible
all_strong : (net : Net) (s : Setting net) → ((t : ℕ) → IsComplex net t → IsTerminal net.reactions t → (z : ℕ) → SameClass net.reactions t z → SameStrong net.reactions t z)
    → IsWeaklyReversible net.reactions
all_strong net s whole =
    let rs = net.reactions in
    let stays : StaysStrong rs = λ y z i.
    let at = inside_at (length net.complexes) rs (inside net s) y z i in
    let one = one_of (λ v. IsComplex net v × SameClass rs y v × IsTerminal rs v) (SameStrong rs) (s.regular.terminal y at.0) in
    let t = one.0 in
    let back : SameClass rs t y = class_back rs y t one.1.1 in
    let ty : SameStrong rs t y = whole t one.1.0 one.1.2 y back in
    let tz : SameStrong rs t z = whole t one.1.0 one.1.2 z (class_then rs t y z back (class_link rs y z (inl i))) in
    strong_then rs y t z (strong_back rs t y ty) tz in
    (weakly_reversible_by_reactions rs).0 stays

-- every sum of the list over a terminal class is zero
abbrev IsStill : Net → List ℤ → Type 0
IsStill net g = (t : ℕ) (x : ℤ) → IsComplex net t → IsTerminal net.reactions t → SumsTo g (SameStrong net.reactions t) x → x ≡ pos 0

still_flow : (net : Net) (s : Setting net) → IsStill net (carried net s) → IsWeaklyReversible net.reactions
still_flow net s still =
    all_strong net s (λ t lt term.
    let m = terminal_at net s t lt term in
    none_enters net s t lt m (still t (gain net.reactions s.bs (entry m.marks)) lt term (carried_over net s (SameStrong net.reactions t) m.marks m.long m.right)))

-- in a weakly reversible network the sums over strong classes are those over linkage classes
weak_sums : (net : Net) (g : List ℤ) → IsWeaklyReversible net.reactions → InConfluenceSpace net g → (y : ℕ) → IsComplex net y → SumsTo g (SameStrong net.reactions y) (pos 0)
weak_sums net g weak space y lt = sums_for g (SameClass net.reactions y) (SameStrong net.reactions y) (pos 0) (λ z h. weak y z h) (λ z h. strong_class net.reactions y z h) (space.classes y lt)

-- ---- a confluence vector exists

weak_vector : (net : Net) (g : List ℤ) → IsWeaklyReversible net.reactions → InConfluenceSpace net g → IsNonzero g → IsConfluenceVector net g
weak_vector net g weak space some = record { space = space; some = some; gathers = λ y lt term. (pos 0, weak_sums net g weak space y lt, omega (arith, ints)) }

-- a list of zeros sums to zero
zero_sum : (net : Net) (g : List ℤ) → ((k : ℕ) → entry g k ≡ pos 0) → IsStill net g
zero_sum net g none t x lt term over = sym over.is ∙ dot_zero over.marks g (λ k. ap (λ (z : ℤ). entry over.marks k *ℤ z) (none k) ∙ *ℤ-zero (entry over.marks k))

some_vector : (net : Net) (s : Setting net) → (g : List ℤ) × IsConfluenceVector net g
some_vector net s =
    let g = s.line.some.0 in
    let space = s.line.some.1 in
    let some = s.line.some.2 in
    let j = some.0 in
    let f = carried net s in
    elim (is_zero (entry f j)) [
      | inr ne ↦ (f, record { space = carried_space net s; some = (j, ne); gathers = carried_gathers net s })
      | inl e ↦
          let none : (k : ℕ) → entry f k ≡ pos 0 = λ k.
          no_zero (entry g j) (entry f k)
          (*ℤ_comm (entry g j) (entry f k) ∙ s.line.one f g (carried_space net s) space k j ∙ ap (λ (z : ℤ). z *ℤ entry g k) e ∙ zero-*ℤ (entry g k)) some.1 in
          (g, weak_vector net g (still_flow net s (zero_sum net f none)) space some)
    ]

-- ---- two of them

-- sums over a property of two vectors of the line are in their ratio
sums_ratio : (net : Net) (s : Setting net) (g h : List ℤ) (P : ℕ → Type 0) (x y : ℤ) (k : ℕ) → InConfluenceSpace net g → InConfluenceSpace net h → SumsTo g P x → SumsTo h P y
    → x *ℤ entry h k ≡ y *ℤ entry g k
sums_ratio net s g h P x y k sg sh over_g over_h =
    let l : length g ≡ length h = sg.long ∙ sym sh.long in
    let ratio : dot over_g.marks g *ℤ entry h k ≡ dot over_g.marks h *ℤ entry g k =
    dot_ratio over_g.marks g h (entry g k) (entry h k) l (λ i. s.line.one g h sg sh i k ∙ *ℤ_comm (entry g k) (entry h i)) in
    let there : dot over_g.marks h ≡ y = sums_one h P P (dot over_g.marks h) y (λ z p. p) (λ z p. p) (sum_by h P over_g.marks (over_g.long ∙ l) over_g.right) over_h in
    ap (λ (z : ℤ). z *ℤ entry h k) (sym over_g.is) ∙ ratio ∙ ap (λ (z : ℤ). z *ℤ entry g k) there

-- if every terminal sum of a confluence vector is zero, the network is weakly reversible
still_vector : (net : Net) (s : Setting net) (g : List ℤ) → IsConfluenceVector net g → IsStill net g → IsWeaklyReversible net.reactions
still_vector net s g c still =
    still_flow net s (λ t x lt term over.
    let gathers = c.gathers t lt term in
    let none : gathers.0 ≡ pos 0 = still t gathers.0 lt term gathers.1 in
    let j = c.some.0 in
    let ratio : x *ℤ entry g j ≡ gathers.0 *ℤ entry (carried net s) j = sums_ratio net s (carried net s) g (SameStrong net.reactions t) x gathers.0 j (carried_space net s) c.space over gathers.1 in
    no_zero (entry g j) x (*ℤ_comm (entry g j) x ∙ ratio ∙ ap (λ (z : ℤ). z *ℤ entry (carried net s) j) none ∙ zero-*ℤ (entry (carried net s) j)) c.some.1)

-- ---- the negative

pub negative_sum : (g : List ℤ) (P : ℕ → Type 0) (x : ℤ) → SumsTo g P x → SumsTo (negative g) P (neg_ℤ x)
negative_sum g P x over = subst (λ (z : ℤ). SumsTo (negative g) P z) (minus_one x) (sum_scaled (neg_ℤ (pos 1)) g P x over)

pub negative_space : (net : Net) (g : List ℤ) → InConfluenceSpace net g → InConfluenceSpace net (negative g)
negative_space net g s =
    record {
      long = length-scale (neg_ℤ (pos 1)) g ∙ s.long;
      balance = λ k. dot-scale (neg_ℤ (pos 1)) g (column net.complexes k) ∙ ap (λ (z : ℤ). neg_ℤ (pos 1) *ℤ z) (s.balance k);
      classes = λ y lt. negative_sum g (SameClass net.reactions y) (pos 0) (s.classes y lt);
    }

negative_some : (g : List ℤ) → IsNonzero g → IsNonzero (negative g)
negative_some g some = (some.0, λ e. some.1 (let f = sym (entry-scale (neg_ℤ (pos 1)) g some.0 ∙ minus_one (entry g some.0)) ∙ e in omega (arith, ints, f)))

negative_too : (net : Net) (s : Setting net) (g : List ℤ) → IsConfluenceVector net g → IsConfluenceVector net (negative g) ↔ IsWeaklyReversible net.reactions
negative_too net s g c = (
  λ d. still_vector net s g c (λ t x lt term over.
      let a = c.gathers t lt term in
      let b = d.gathers t lt term in
      let P = SameStrong net.reactions t in
      let xa : x ≡ a.0 = sums_one g P P x a.0 (λ z p. p) (λ z p. p) over a.1 in
      let xb : neg_ℤ x ≡ b.0 = sums_one (negative g) P P (neg_ℤ x) b.0 (λ z p. p) (λ z p. p) (negative_sum g P x over) b.1 in
      omega (arith, ints, xa, xb, a.2, b.2)),
  λ weak. weak_vector net (negative g) weak (negative_space net g c.space) (negative_some g c.some),
)

-- ---- two confluence vectors

sign_or : (p : ℤ) → p ≢ pos 0 → (pos 1 ≤ℤ p) ⊎ (pos 1 ≤ℤ neg_ℤ p)
sign_or (pos zero) ne = absurd (ne refl)
sign_or (pos (suc n)) ne = inl (omega (arith, ints))
sign_or (negsuc n) ne = inr (omega (arith, ints))

-- sums at least zero, whose ratio is below zero, are zero
opposite_none : (x y p q : ℤ) → pos 0 ≤ℤ x → pos 0 ≤ℤ y → x *ℤ q ≡ y *ℤ p → pos 1 ≤ℤ p → pos 1 ≤ℤ neg_ℤ q → x ≡ pos 0
opposite_none x y p q hx hy e hp hq =
    let a : pos 0 ≤ℤ (y *ℤ p) = up_up y p hy (omega (arith, ints, hp)) in
    let b : pos 0 ≤ℤ (x *ℤ neg_ℤ q) = up_up x (neg_ℤ q) hx (omega (arith, ints, hq)) in
    let none : q *ℤ x ≡ pos 0 = omega (arith, ints, a, b, e, mul-neg x q, *ℤ_comm q x) in
    no_zero q x none (λ z. omega (arith, ints, z, hq))

-- of two confluence vectors with opposite signs at a place, the first is still
opposite_still : (net : Net) (s : Setting net) (g h : List ℤ) (j : ℕ) → IsConfluenceVector net g → IsConfluenceVector net h
    → ((pos 1 ≤ℤ entry g j) × (pos 1 ≤ℤ neg_ℤ (entry h j))) ⊎ ((pos 1 ≤ℤ neg_ℤ (entry g j)) × (pos 1 ≤ℤ entry h j)) → IsStill net g
opposite_still net s g h j c d signs t x lt term over =
    let a = c.gathers t lt term in
    let b = d.gathers t lt term in
    let P = SameStrong net.reactions t in
    let xa : x ≡ a.0 = sums_one g P P x a.0 (λ z p. p) (λ z p. p) over a.1 in
    let ratio : x *ℤ entry h j ≡ b.0 *ℤ entry g j = sums_ratio net s g h P x b.0 j c.space d.space over b.1 in
    let up : pos 0 ≤ℤ x = omega (arith, ints, xa, a.2) in
    elim signs [
      | inl o ↦ opposite_none x b.0 (entry g j) (entry h j) up b.2 ratio o.0 o.1
      | inr o ↦ opposite_none x b.0 (neg_ℤ (entry g j)) (neg_ℤ (entry h j)) up b.2 (mul-neg x (entry h j) ∙ ap neg_ℤ ratio ∙ sym (mul-neg b.0 (entry g j))) o.0 (omega (arith, ints, o.1))
    ]

-- places of two vectors of the line, in their ratio
line_ratio : (net : Net) (s : Setting net) (g h : List ℤ) (j k : ℕ) → IsConfluenceVector net g → IsConfluenceVector net h → entry h j *ℤ entry g k ≡ entry g j *ℤ entry h k
line_ratio net s g h j k c d = *ℤ_comm (entry h j) (entry g k) ∙ s.line.one g h c.space d.space k j

negative_entry : (h : List ℤ) (k : ℕ) → entry (negative h) k ≡ neg_ℤ (entry h k)
negative_entry h k = entry-scale (neg_ℤ (pos 1)) h k ∙ minus_one (entry h k)

neg_neg : (x : ℤ) → neg_ℤ (neg_ℤ x) ≡ x
neg_neg x = omega (arith, ints)

two_vectors : (net : Net) (s : Setting net) (g h : List ℤ) → IsConfluenceVector net g → IsConfluenceVector net h → ArePositiveMultiples g h ⊎ (ArePositiveMultiples g (negative h) × IsWeaklyReversible net.reactions)
two_vectors net s g h c d =
    let j = c.some.0 in
    let p = entry g j in
    let q = entry h j in
    let k0 = d.some.0 in
    let q_some : q ≢ pos 0 = λ e. d.some.1 (no_zero p (entry h k0) (sym (line_ratio net s g h j k0 c d) ∙ ap (λ (z : ℤ). z *ℤ entry g k0) e ∙ zero-*ℤ (entry g k0)) c.some.1) in
    elim (sign_or p c.some.1) [
      | inl pp ↦ elim (sign_or q q_some) [
        | inl qp ↦ inl (record { a = q; b = p; a_positive = qp; b_positive = pp; is = λ k. line_ratio net s g h j k c d })
        | inr qn ↦ inr (
          record { a = neg_ℤ q; b = p; a_positive = qn; b_positive = pp; is = λ k. neg-mul q (entry g k) ∙ ap neg_ℤ (line_ratio net s g h j k c d) ∙ sym (mul-neg p (entry h k)) ∙ ap (λ (z : ℤ). p *ℤ z) (sym (negative_entry h k)) },
          still_vector net s g c (opposite_still net s g h j c d (inl (pp, qn))),
        )
      ]
      | inr pn ↦ elim (sign_or q q_some) [
        | inl qp ↦ inr (
          record { a = q; b = neg_ℤ p; a_positive = qp; b_positive = pn; is = λ k. line_ratio net s g h j k c d ∙ sym (neg_neg (p *ℤ entry h k)) ∙ ap neg_ℤ (sym (mul-neg p (entry h k))) ∙ sym (neg-mul p (neg_ℤ (entry h k))) ∙ ap (λ (z : ℤ). neg_ℤ p *ℤ z) (sym (negative_entry h k)) },
          still_vector net s g c (opposite_still net s g h j c d (inr (pn, qp))),
        )
        | inr qn ↦ inl (record { a = neg_ℤ q; b = neg_ℤ p; a_positive = qn; b_positive = pn; is = λ k. neg-mul q (entry g k) ∙ ap neg_ℤ (line_ratio net s g h j k c d) ∙ sym (neg-mul p (entry h k)) })
      ]
    ]

-- ---- the law

pub confluence_vectors_are_one : ConfluenceVectorsAreOne
confluence_vectors_are_one net network regular line =
    let s : Setting net = record { network = network; regular = regular; line = line; bs = regular.dependent.0; positive = regular.dependent.1 } in
    record { some = some_vector net s; one = λ g h c d. two_vectors net s g h c d; negative_too = λ g c. negative_too net s g c }
