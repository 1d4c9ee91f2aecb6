-- What past multipliers rule out, by the marks of the list (-uA, u).
use Rattle.crn_sign.proofs.Prelude.{◌≡◌, ◌≢◌, ℕ, zero, suc, ◌+◌, ◌≤◌, ◌<◌, ◌/◌, ◌%◌, inl, inr, List, [], ◌∷◌, length, replicate, Bool, true, false, refl, sym, ap, ap₂, subst, ◌∙◌, arith, pos, negsuc, ◌*ℤ◌, unsigned_abs, ints, length-replicate, get_or_past, WIDE_ENTRY, Sign, Kind, ZeroKind, Pos, Neg, NonNeg, Free, Mat, entry, scale, HasSign, width, MayWeigh, is_signed, kind_at, eq_or, lt_or, zip_from, entry-scale, length-scale, factor, IsSmallCut, dual_scaled, drop-scale, scaled_small, Bits, Mark, Zero, bit_of, weakened, IsMarked, mark_at, mark_in, none, word_at, word_count, HasMark, kind_of_mark, kinds_of, sign_mark, AllWeigh, AreMarksOf, IsPast, SomeCounts, mark_of_multiple, sign_there, AreSignsOf, zip_at, zip_long, ZeroSign, AllZip}
use Rattle.std.specs.Prelude.{ℤ}
use Rattle.crn_sign.proofs.BitLaws.{none_in}
use Rattle.crn_sign.proofs.MarkLaws.{kind_asked, kinds_long, negated_mark, plain_mark, signed_mark}

-- ---- marks, coordinate by coordinate

-- the marks of the vectors of these signs before c, and none from c on
pub record AreMarkedTo (a : Mat) (signs : List Sign) (c : ℕ) (marks : List Bits) : Type 0 where
  pub long : length marks ≡ word_count a
  pub done : (w : List ℤ) → AllZip HasSign signs w → (k : ℕ) → k < c → HasMark (mark_at marks k) (entry w k)
  pub rest : (k : ℕ) → c ≤ k → mark_at marks k ≡ Zero

none_word : (n v : ℕ) → word_at (replicate n none) v ≡ none
none_word zero v = refl
none_word (suc n) zero = refl
none_word (suc n) (suc v) = none_word n v

pub marked_none : (a : Mat) (signs : List Sign) (marks : List Bits) → marks ≡ replicate (word_count a) none → AreMarkedTo a signs 0 marks
marked_none a signs marks e = record {
  long = ap (λ (l : List Bits). length l) e ∙ length-replicate (word_count a) none;
  done = λ w are k lt. absurd (omega (arith, lt));
  rest = λ k le. ap (λ (l : List Bits). mark_at l k) e ∙ ap (λ (b : Bits). mark_in b (k % 64)) (none_word (word_count a) (k / 64)) ∙ none_in (k % 64);
}

pub marked_more : (a : Mat) (signs : List Sign) (c : ℕ) (old new : List Bits) → c < length signs → IsMarked old c (sign_mark (sign_there signs c)) new → AreMarkedTo a signs c old → AreMarkedTo a signs (c + 1) new
marked_more a signs c old new inside put h = record {
  long = put.count ∙ h.long;
  done = λ w are k lt. elim (eq_or k c) as (λ _. HasMark (mark_at new k) (entry w k)) [
    | inl e ↦ subst (λ (i : ℕ). HasMark (mark_at new i) (entry w i)) (sym e)
        (subst (λ (t : Mark). HasMark t (entry w c)) (sym put.here) (signed_mark (sign_there signs c) (entry w c) (zip_at HasSign ZeroSign (pos 0) signs w are c inside)))
    | inr ne ↦ subst (λ (t : Mark). HasMark t (entry w k)) (sym (put.others k ne)) (h.done w are k (omega (arith, lt, ne)))
  ];
  rest = λ k le. put.others k (λ e. omega (arith, le, e)) ∙ h.rest k (omega (arith, le));
}

pub marked_all : (a : Mat) (signs : List Sign) (c : ℕ) (marks : List Bits) → length signs ≤ c → AreMarkedTo a signs c marks → (w : List ℤ) → AllZip HasSign signs w → AreMarksOf a w marks
marked_all a signs c marks le h w are = record {
  long = h.long;
  are = λ k. elim (lt_or k c) as (λ _. HasMark (mark_at marks k) (entry w k)) [
    | inl lt ↦ h.done w are k lt
    | inr past ↦ subst (λ (t : Mark). HasMark t (entry w k)) (sym (h.rest k past)) (get_or_past w k (pos 0) (omega (arith, past, le, zip_long HasSign signs w are)))
  ];
}

-- ---- a hit

pub negative_some : (s : Bool) (x : ℤ) → x ≢ pos 0 → factor s *ℤ x ≢ pos 0
negative_some true (pos zero) n e = n refl
negative_some true (pos (suc k)) n e = omega (arith, ints, e)
negative_some true (negsuc k) n e = omega (arith, ints, e)
negative_some false (pos zero) n e = n refl
negative_some false (pos (suc k)) n e = omega (arith, ints, e)
negative_some false (negsuc k) n e = omega (arith, ints, e)

-- the mark of a number, or of its negative
multiple_mark : (stays : Bool) (m : Mark) (x : ℤ) → HasMark m x → HasMark (mark_of_multiple stays m) (factor stays *ℤ x)
multiple_mark true m x h = plain_mark m x h
multiple_mark false m x h = negated_mark m x h

-- what may be weighed where a sign is required may be where it is required weakly
weighs_weakly : (κ : Kind) (e : ℕ) (x : ℤ) → MayWeigh κ x → MayWeigh (weakened κ e) x
weighs_weakly ZeroKind e x h = h
weighs_weakly Pos zero x h = h
weighs_weakly Pos (suc e) x h = h
weighs_weakly Neg e x h = h
weighs_weakly NonNeg e x h = h
weighs_weakly Free e x h = h

pub past_cut : (a : Mat) (weak : List ℕ) (asked : List Bits) (stays : Bool) (u v : List ℤ) (marks : List Bits) → IsPast a u marks → length asked ≡ word_count a → AllWeigh asked stays marks → SomeCounts weak asked marks → v ≡ scale (factor stays) u
    → IsSmallCut a (kinds_of a weak asked) v
past_cut a weak asked stays u v marks past count weigh some is =
    let w = past.w in
    let f = factor stays in
    let kinds = kinds_of a weak asked in
    let long : length kinds ≡ width a = kinds_long a weak asked in
    let at : (k : ℕ) → k < length kinds → MayWeigh (kind_at kinds k) (entry (scale f w) k) = λ k lt.
    let inside : k < width a = omega (arith, lt, long) in
    subst (λ (t : Kind). MayWeigh t (entry (scale f w) k)) (sym (kind_asked a weak asked k inside))
    (weighs_weakly (kind_of_mark (mark_at asked k)) (bit_of weak k) (entry (scale f w) k) (subst (λ (x : ℤ). MayWeigh (kind_of_mark (mark_at asked k)) x) (sym (entry-scale f w k))
    (weigh k (omega (arith, inside, count)) (f *ℤ entry w k) (multiple_mark stays (mark_at marks k) (entry w k) (past.marks_are.are k))))) in
    let k = some.0 in
    let there : entry w k ≢ pos 0 = some.1.some (entry w k) (past.marks_are.are k) in
    let inside : k < width a = elim (lt_or k (length w)) as (λ _. k < width a) [
      | inl lt ↦ omega (arith, lt, past.space.long)
      | inr le ↦ absurd (there (get_or_past w k (pos 0) le))
    ] in
    let here : entry (scale f w) k ≢ pos 0 = λ e. negative_some stays (entry w k) there (sym (entry-scale f w k) ∙ e) in
    record {
      cut = (
        scale f w,
        record {
          space = dual_scaled a f w past.space;
          rows = drop-scale f a.cols w ∙ ap (scale f) past.rows ∙ sym is;
          each = zip_from MayWeigh Free (pos 0) kinds (scale f w) (length-scale f w ∙ past.space.long ∙ sym long) at;
          some = (k, ap is_signed (kind_asked a weak asked k inside) ∙ some.1.signed, here);
        },
      );
      small = λ k. subst (λ (l : List ℤ). unsigned_abs (entry l k) < WIDE_ENTRY) (sym is) (scaled_small stays u WIDE_ENTRY past.small k);
    }

pub past_from : (a : Mat) (kinds : List Kind) (u : List ℤ) (signs : List Sign) (marks : List Bits) → IsSmallCut a kinds u → AreSignsOf a u signs → ((w : List ℤ) → AllZip HasSign signs w → AreMarksOf a w marks) → IsPast a u marks
past_from a kinds u signs marks c s are = record { w = s.w; space = s.space; rows = s.rows; small = c.small; marks_are = are s.w s.are }

pub scale_one : (v : List ℤ) → scale (factor true) v ≡ v
scale_one [] = refl
scale_one (x ∷ v) = let e : pos 1 *ℤ x ≡ x = omega (arith, ints) in ap₂ (λ (y : ℤ) (w : List ℤ). y ∷ w) e (scale_one v)
