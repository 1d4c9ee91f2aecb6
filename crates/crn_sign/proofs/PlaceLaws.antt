-- What a part knows at a prefix, while kinds are asked and after.
use Rattle.crn_sign.proofs.Prelude.{◌≡◌, ◌≢◌, ℤ, IsSmallCut, ℕ, zero, suc, ◌+◌, ◌-◌, ◌%◌, ◌<◌, ◌≤◌, inl, inr, List, [], ◌∷◌, ◌++◌, length, get_or, take, drop, drop-cons, Bool, true, false, refl, sym, ap, ap₂, subst, ◌∙◌, add-one, arith, bit_at-zero, length-append, ext_get_or, drop_all, take-append-le, take_all, Sign, Kind, Pos, Neg, NonNeg, Free, Mat, width, kind_at, one_if, Signed, eq_or, Bits, Place, Level, Asked, AskKinds, AskKindsBy, IsPut, asked_kind, bit_of, asked_by, kind_by_words, kind_in, kind_of_bits, minus_at, plus_at, weakened, SettlesOnly, mark_of, AreRowMarks, kind_of_mark, kinds_of, HasRoom, IsAround, IsAsked, IsHere, IsPlace, IsSettledAt, IsSettling, AreAround, AreAsked, AreMarked, IsLevel, row_kinds}
use Rattle.crn_vec.specs.declared.signs.Kind.TheVariants.{Zero}
use Rattle.crn_sign.specs.Options.{word_count}
use Rattle.crn_sign.proofs.MarkLaws.{kind_asked, kinds_long}

pub room_of : (a : Mat) (weak : List ℕ) (l : Place) → IsPlace a weak l → HasRoom a l
room_of a weak l h = record { width_is = h.width_is; asked = h.asked; marks = h.marks.long }

pub settling_room : (a : Mat) (kinds : List Kind) (settled : List ℕ) (l : Place) → IsSettling a kinds settled l → HasRoom a l
settling_room a kinds settled l h = h.room

kind_by_bits : (p m : ℕ) → kind_of_mark (mark_of p m) ≡ kind_of_bits p m
kind_by_bits zero zero = refl
kind_by_bits zero (suc m) = refl
kind_by_bits (suc p) zero = refl
kind_by_bits (suc p) (suc m) = refl

-- the kind that words ask
kind_by : (a : Mat) (weak : List ℕ) (asked : List Bits) (k : ℕ) → k < width a → kind_at (kinds_of a weak asked) k ≡ kind_by_words weak asked k
kind_by a weak asked k lt = kind_asked a weak asked k lt ∙ ap (λ (t : Kind). weakened t (bit_of weak k)) (kind_by_bits (plus_at asked k) (minus_at asked k))

-- a kind that is not weak
firm : (κ : Kind) → weakened κ 0 ≡ κ
firm Zero = refl
firm Pos = refl
firm Neg = refl
firm NonNeg = refl
firm Free = refl

-- where nothing is weak
pub firm_kind : (asked : List Bits) (k : ℕ) → kind_by_words [] asked k ≡ kind_in asked k
firm_kind asked k = ap (λ (e : ℕ). weakened (kind_in asked k) e) (bit_at-zero (k % 64)) ∙ firm (kind_in asked k)

-- what words require where nothing is weak
pub firm_kinds : (a : Mat) (kinds : List Kind) (asked : List Bits) → AskKinds a kinds asked → AskKindsBy a [] kinds asked
firm_kinds a kinds asked h = record { count = h.count; each = λ k lt. firm_kind asked k ∙ h.each k lt }

kind_firm : (a : Mat) (asked : List Bits) (k : ℕ) → k < width a → kind_at (kinds_of a [] asked) k ≡ kind_in asked k
kind_firm a asked k lt = kind_by a [] asked k lt ∙ firm_kind asked k

bits_by : (p m : Bool) → kind_of_bits (one_if p) (one_if m) ≡ asked_by p m
bits_by false false = refl
bits_by false true = refl
bits_by true false = refl
bits_by true true = refl

pub put_here : (old : List Bits) (k : ℕ) (asked : Asked) (new : List Bits) → IsPut old k asked new → kind_in new k ≡ asked_kind asked
put_here old k asked new h = ap₂ (λ (p m : ℕ). kind_of_bits p m) h.plus h.minus ∙ bits_by asked.plus asked.minus

pub put_other : (old : List Bits) (k : ℕ) (asked : Asked) (new : List Bits) → IsPut old k asked new → (j : ℕ) → j ≢ k → kind_in new j ≡ kind_in old j
put_other old k asked new h j ne = ap₂ (λ (p m : ℕ). kind_of_bits p m) (h.other_plus j ne) (h.other_minus j ne)

-- the kinds that are asked are these, coordinate by coordinate
pub kinds_by : (a : Mat) (weak : List ℕ) (kinds : List Kind) (asked : List Bits) → length kinds ≡ width a → ((k : ℕ) → k < width a → kind_by_words weak asked k ≡ kind_at kinds k) → kinds_of a weak asked ≡ kinds
kinds_by a weak kinds asked long same = ext_get_or Free (kinds_of a weak asked) kinds (kinds_long a weak asked ∙ sym long)
    (λ k lt. let at : k < width a = omega (arith, lt, kinds_long a weak asked) in kind_by a weak asked k at ∙ same k at)

pub kinds_are : (a : Mat) (kinds : List Kind) (asked : List Bits) → length kinds ≡ width a → ((k : ℕ) → k < width a → kind_in asked k ≡ kind_at kinds k) → kinds_of a [] asked ≡ kinds
kinds_are a kinds asked long same = kinds_by a [] kinds asked long (λ k lt. firm_kind asked k ∙ same k lt)

settled_room : (a : Mat) (kinds : List Kind) (k : ℕ) (old new : Place) → IsSettledAt a kinds k old new → HasRoom a old → HasRoom a new
settled_room a kinds k old new s h = record { width_is = s.width_is ∙ h.width_is; asked = s.count ∙ h.asked; marks = ap (λ (l : List Bits). length l) s.marks ∙ h.marks }

-- one kind is asked
pub one_settled : (a : Mat) (kinds : List Kind) (k : ℕ) (rest : List ℕ) (old new : Place) → IsSettledAt a kinds k old new → IsSettling a kinds (k ∷ rest) old → IsSettling a kinds rest new
one_settled a kinds k rest old new s h = record {
  room = settled_room a kinds k old new s h.room;
  same = λ j lt out. elim (eq_or j k) as (λ _. kind_in new.asked.items j ≡ kind_at kinds j) [
    | inl e ↦ subst (λ (i : ℕ). kind_in new.asked.items i ≡ kind_at kinds i) (sym e) (s.here (subst (λ (i : ℕ). i < width a) e lt))
    | inr ne ↦ s.others j ne ∙ h.same j lt (λ i. elim i [ inl e ↦ ne e | inr i ↦ out i ])
  ];
}

-- the kinds of all coordinates before k are asked
pub record IsBegun (a : Mat) (kinds : List Kind) (k : ℕ) (l : Place) : Type 0 where
  pub width_is : l.width ≡ width a
  pub asked : length l.asked.items ≡ word_count a
  pub marks : AreRowMarks a l.marks.items
  pub done : (j : ℕ) → j < k → kind_in l.asked.items j ≡ kind_at kinds j

pub begun_room : (a : Mat) (kinds : List Kind) (k : ℕ) (l : Place) → IsBegun a kinds k l → HasRoom a l
begun_room a kinds k l h = record { width_is = h.width_is; asked = h.asked; marks = h.marks.long }

pub begun_step : (a : Mat) (kinds : List Kind) (k : ℕ) (old new : Place) → k < width a → IsSettledAt a kinds k old new → IsBegun a kinds k old → IsBegun a kinds (k + 1) new
begun_step a kinds k old new lt s h = record {
  width_is = s.width_is ∙ h.width_is;
  asked = s.count ∙ h.asked;
  marks = subst (AreRowMarks a) (sym s.marks) h.marks;
  done = λ j j_lt. elim (eq_or j k) as (λ _. kind_in new.asked.items j ≡ kind_at kinds j) [
    | inl e ↦ subst (λ (i : ℕ). kind_in new.asked.items i ≡ kind_at kinds i) (sym e) (s.here lt)
    | inr ne ↦ s.others j ne ∙ h.done j (omega (arith, j_lt, ne))
  ];
}

-- what is asked one level above is right around the prefix there
pub around_above : (a : Mat) (kinds : List Sign → List Kind) (p : List Sign) (above here : Place) → kinds_of a [] above.asked.items ≡ kinds p → HasRoom a here → here.asked.items ≡ above.asked.items → IsAround a kinds p here
around_above a kinds p above here are room same = record {
  room = room;
  same = λ k lt law. ap (λ (l : List Bits). kind_in l k) same ∙ sym (kind_firm a above.asked.items k lt) ∙ ap (λ (ks : List Kind). kind_at ks k) are;
}

-- what is asked at a prefix is right around the one with one choice less
pub around_below : (a : Mat) (kinds : List Sign → List Kind) (p q : List Sign) (s : Sign) (l : Place) → q ≡ p ++ s ∷ [] → IsAsked a [] (kinds q) l → IsAround a kinds p l
around_below a kinds p q s l e h = record {
  room = h.room;
  same = λ k lt law. sym (kind_firm a l.asked.items k lt) ∙ ap (λ (ks : List Kind). kind_at ks k) h.kinds_are ∙ ap (λ (r : List Sign). kind_at (kinds r) k) e ∙ law s;
}

-- what is asked around a prefix is that of one with one choice more, but for what the choice settles
pub around_settling : (a : Mat) (kinds : List Sign → List Kind) (p q : List Sign) (s : Sign) (here : Place) (depth : ℕ) (settled : List ℕ) → q ≡ p ++ s ∷ [] → IsAround a kinds p here → SettlesOnly kinds (width a) depth settled → depth ≡ length q
    → IsSettling a (kinds q) settled here
around_settling a kinds p q s here depth settled e h only de =
    let long : length p + 1 ≡ depth = omega (arith, de, ap (λ (l : List Sign). length l) e, length-append p (s ∷ [])) in
    record { room = h.room; same = λ k lt out. h.same k lt (λ t. only p t k long lt out) ∙ sym (only p s k long lt out) ∙ ap (λ (r : List Sign). kind_at (kinds r) k) (sym e) }

-- one choice more leaves the rows of the other species in a table's part B
pub row_kept : (n : ℕ) (p : List Sign) (s : Sign) (j : ℕ) → j ≢ length p → kind_at (row_kinds n (p ++ s ∷ [])) j ≡ kind_at (row_kinds n p) j
row_kept zero p s j ne = refl
row_kept (suc n) [] s zero ne = absurd (ne refl)
row_kept (suc n) [] s (suc j) ne = refl
row_kept (suc n) (t ∷ p) s zero ne = refl
row_kept (suc n) (t ∷ p) s (suc j) ne = row_kept n p s j (λ e. ne (ap suc e))

-- the next kind to ask, and none left
pub first_of : (a : Mat) (kinds : List Kind) (settled : List ℕ) (i : ℕ) (l : Place) → i < length settled → IsSettling a kinds (drop i settled) l → IsSettling a kinds (get_or settled i 0 ∷ drop (i + 1) settled) l
first_of a kinds settled i l lt h = rw add-one (subst (λ (s : List ℕ). IsSettling a kinds s l) (drop-cons settled i 0 lt) h)

pub none_left : (a : Mat) (kinds : List Kind) (settled : List ℕ) (i : ℕ) (l : Place) → length settled ≤ i → IsSettling a kinds (drop i settled) l → IsSettling a kinds [] l
none_left a kinds settled i l past h = subst (λ (s : List ℕ). IsSettling a kinds s l) (drop_all i settled past) h

-- all kinds are asked
pub all_settled : (a : Mat) (kinds : List Kind) (l : Place) → length kinds ≡ width a → IsSettling a kinds [] l → kinds_of a [] l.asked.items ≡ kinds
all_settled a kinds l long h = kinds_are a kinds l.asked.items long (λ k lt. h.same k lt (λ i. i))

pub asked_at : (a : Mat) (weak : List ℕ) (kinds : List Kind) (l : Place) → IsHere a weak kinds l → IsAsked a weak kinds l
asked_at a weak kinds l h = record { room = room_of a weak l h.place; kinds_are = h.kinds_are }

-- multipliers that rule out what words ask
pub cut_of : (a m : Mat) (weak v : List ℕ) (kinds : List Kind) (asked : List Bits) (u : List ℤ) → m ≡ a → v ≡ weak → kinds_of a weak asked ≡ kinds → IsSmallCut m (kinds_of m v asked) u → IsSmallCut a kinds u
cut_of a m weak v kinds asked u same firm are h = subst (λ (ks : List Kind). IsSmallCut a ks u) are (subst (λ (x : List ℕ). IsSmallCut a (kinds_of a x asked) u) firm (subst (λ (n : Mat). IsSmallCut n (kinds_of n v asked) u) same h))

-- ---- both parts

pub level_asked : (w : Signed) (weak : List ℕ) (p : List Sign) (l : Level) → IsLevel w weak p l → AreAsked w weak p l
level_asked w weak p l h = record { a = asked_at w.matrix_a weak (w.kinds_a p) l.a h.a; b = asked_at w.matrix_b [] (w.kinds_b p) l.b h.b }

pub level_marked : (w : Signed) (weak : List ℕ) (p : List Sign) (l : Level) → IsLevel w weak p l → AreMarked w l
level_marked w weak p l h = record { a = h.a.place.marks; b = h.b.place.marks }

-- what is asked, and what was taken over for it
pub taken_level : (w : Signed) (weak : List ℕ) (p : List Sign) (old new : Level) → IsPlace w.matrix_a weak new.a → IsPlace w.matrix_b [] new.b → new.a.asked.items ≡ old.a.asked.items → new.b.asked.items ≡ old.b.asked.items → AreAsked w weak p old → IsLevel w weak p new
taken_level w weak p old new a b ea eb h = record {
  a = record { place = a; kinds_are = ap (λ (q : List Bits). kinds_of w.matrix_a weak q) ea ∙ h.a.kinds_are };
  b = record { place = b; kinds_are = ap (λ (q : List Bits). kinds_of w.matrix_b [] q) eb ∙ h.b.kinds_are };
}

-- the kinds that a problem asked
pub asked_kinds : (a : Mat) (weak : List ℕ) (kinds : List Kind) (asked : List Bits) → length kinds ≡ width a → AskKindsBy a weak kinds asked → kinds_of a weak asked ≡ kinds
asked_kinds a weak kinds asked long h = kinds_by a weak kinds asked long h.each

pub asked_around : (w : Signed) (weak : List ℕ) (p q : List Sign) (s : Sign) (l : Level) → q ≡ p ++ s ∷ [] → length l.sums.items ≡ word_count w.matrix_a → AreAsked w weak q l → AreAround w p l
asked_around w weak p q s l e count h = record { a = h.a.room; b = around_below w.matrix_b w.kinds_b p q s l.b e h.b; sums = count }

pub level_at : (w : Signed) (weak : List ℕ) (p q : List Sign) (l : Level) → q ≡ p → IsHere w.matrix_a weak (w.kinds_a q) l.a → IsHere w.matrix_b [] (w.kinds_b p) l.b → IsLevel w weak p l
level_at w weak p q l e a b = record { a = subst (λ (r : List Sign). IsHere w.matrix_a weak (w.kinds_a r) l.a) e a; b = b }

pub level_moved : (w : Signed) (weak : List ℕ) (p q : List Sign) (l : Level) → q ≡ p → IsLevel w weak p l → IsLevel w weak q l
level_moved w weak p q l e h = subst (λ (r : List Sign). IsLevel w weak r l) (sym e) h

-- the last option taken back
pub taken_back : (p q new : List Sign) (s : Sign) (n : ℕ) → q ≡ p ++ s ∷ [] → n ≡ length q → new ≡ take (n - 1) q → new ≡ p
taken_back p q new s n e long is =
    let count : n - 1 ≡ length p = omega (arith, long, ap (λ (l : List Sign). length l) e, length-append p (s ∷ [])) in
    is ∙ ap₂ (λ (m : ℕ) (l : List Sign). take m l) count e ∙ take-append-le (length p) p (s ∷ []) (omega arith) ∙ take_all (length p) p (omega arith)
