-- Of a settled course a text gives one thing or has one first fault, and never both; and what one course after another does.
use Rattle.crn_ctext.proofs.Prelude.{◌≡◌, ◌⊎◌, ℕ, Bool, true, false, ◌<◌, List, [], ◌∷◌, length, refl, sym, ap, subst, ◌∙◌, inl, inr, arith, MAX_DOCUMENT, Place, IsLineAt, BreaksLine, document_too_long, line_too_long, otherwise, LacksLine, HasMore, early, Course, Code, Kind, Own, Give, Line, Test, End, IsCode, IsReported, number_of, ◌>>=◌, Gives, FailsFirst, IsSettled, line_or_not, breaks_or_not, line_is_there, line_breaks_none, line_is_one, break_is_one, DocumentTooLong, LineTooLong, EndsEarly, AfterEnd, TreeEndsEarly}

-- whether something is left is decided
more_or_not : (at : Place) → HasMore at ⊎ (HasMore at → ⊥)
more_or_not at = by at.left
  where
    by : (bs : List ℕ) → ((bs ≡ []) → ⊥) ⊎ (((bs ≡ []) → ⊥) → ⊥)
    by [] = inr (λ h. h refl)
    by (b ∷ bs) = inl (λ e. absurd cc)

abbrev Judged : {A : Type 0} → Course A → Place → Type 0
Judged {A} course at = ((y : A) × (after : Place) × Gives course at y after) ⊎ ((n : ℕ) × (code : ℕ) × FailsFirst course at n code)

pub each_is_judged : {A : Type 0} (own : ℕ → Type 0) (course : Course A) → IsSettled own course → (at : Place) → at.before < MAX_DOCUMENT → Judged course at
unfolding Gives FailsFirst IsSettled
each_is_judged own (Give x) s at lt = inl (x, at, (refl, refl))
each_is_judged own (Line node next) s at lt = elim (breaks_or_not at (early node) (LacksLine at) lt (line_or_not at.left)) [
  | inl breaks ↦ inr (at.line, breaks.0, inl (refl, breaks.1))
  | inr none ↦ let l = line_is_there at lt none.0 none.1 none.2 in let b = l.2.bound in elim (each_is_judged own (next l.0) (s l.0) l.1 b) [
    | inl gives ↦ inl (gives.0, gives.1, (l.0, l.1, l.2, gives.2))
    | inr fails ↦ inr (fails.0, fails.1, inr (l.0, l.1, l.2, fails.2))
  ]
]
each_is_judged own (Test n c X P next) s at lt = elim s.0 [
  | inl x ↦ elim (each_is_judged own (next x.0) (s.2 x.0 x.1) at lt) [
    | inl gives ↦ inl (gives.0, gives.1, (x.0, x.1, gives.2))
    | inr fails ↦ inr (fails.0, fails.1, inr (x.0, x.1, fails.2))
  ]
  | inr none ↦ inr (n, number_of c, inl (refl, refl, none))
]
each_is_judged own (End next) s at lt = elim (breaks_or_not at 28 (HasMore at) lt (more_or_not at)) [
  | inl breaks ↦ inr (at.line, breaks.0, inl (refl, breaks.1))
  | inr none ↦ elim (each_is_judged own next s at lt) [
    | inl gives ↦ inl (gives.0, gives.1, (none.2, gives.2))
    | inr fails ↦ inr (fails.0, fails.1, inr (none.2, fails.2))
  ]
]

-- if nothing is left, no test of a line fails
end_breaks_none : (at : Place) (code : ℕ) → (HasMore at → ⊥) → BreaksLine at 28 (HasMore at) code → ⊥
end_breaks_none at code none (document_too_long d) = none (λ e. absurd (let l : length at.left ≡ 0 = ap length e in omega (arith, l, d.2)))
end_breaks_none at code none (line_too_long d l) = none (λ e. absurd (let n : length at.left ≡ 0 = ap length e in omega (arith, n, l.0)))
end_breaks_none at code none (otherwise d l o) = none o

-- what holds of the place after a line holds of the place after the same line
pub same_after : (P : List ℕ → Place → Type 0) (at : Place) (line l : List ℕ) (after b : Place) → IsLineAt at line after → IsLineAt at l b → P l b → P line after
same_after P at line l after b p q h =
    let same = line_is_one at line l after b p q in
    subst (λ (x : List ℕ). P x after) (sym same.0) (subst (λ (y : Place). P l y) (sym same.1) h)

pub gives_or_fails : {A : Type 0} (own : ℕ → Type 0) (course : Course A) → IsSettled own course → (at after : Place) (y : A) (n code : ℕ) → Gives course at y after → FailsFirst course at n code → ⊥
unfolding Gives FailsFirst IsSettled
gives_or_fails own (Give x) s at after y n code p f = f
gives_or_fails own (Line node next) s at after y n code p f = elim f [
  | inl breaks ↦ line_breaks_none at p.0 p.1 (early node) code p.2 breaks.1
  | inr l ↦ gives_or_fails own (next p.0) (s p.0) p.1 after y n code p.3 (same_after (λ x b. FailsFirst (next x) b n code) at p.0 l.0 p.1 l.1 p.2 l.2 l.3)
]
gives_or_fails own (Test m c X P next) s at after y n code p f = elim f [
  | inl none ↦ none.2 p.0 p.1
  | inr x ↦ gives_or_fails own (next p.0) (s.2 p.0 p.1) at after y n code p.2 (subst (λ (y : X). FailsFirst (next y) at n code) (s.1 x.0 p.0 x.1 p.1) x.2)
]
gives_or_fails own (End next) s at after y n code p f = elim f [
  | inl breaks ↦ end_breaks_none at code p.0 breaks.1
  | inr more ↦ gives_or_fails own next s at after y n code p.1 more.1
]

pub gives_one : {A : Type 0} (own : ℕ → Type 0) (course : Course A) → IsSettled own course → (at after past : Place) (y z : A) → Gives course at y after → Gives course at z past → (y ≡ z) × (after ≡ past)
unfolding Gives IsSettled
gives_one own (Give x) s at after past y z p q = (sym p.0 ∙ q.0, sym p.1 ∙ q.1)
gives_one own (Line node next) s at after past y z p q = gives_one own (next p.0) (s p.0) p.1 after past y z p.3 (same_after (λ x b. Gives (next x) b z past) at p.0 q.0 p.1 q.1 p.2 q.2 q.3)
gives_one own (Test m c X P next) s at after past y z p q = gives_one own (next p.0) (s.2 p.0 p.1) at after past y z p.2 (subst (λ (x : X). Gives (next x) at z past) (s.1 q.0 p.0 q.1 p.1) q.2)
gives_one own (End next) s at after past y z p q = gives_one own next s at after past y z p.1 q.1

pub first_is_one : {A : Type 0} (own : ℕ → Type 0) (course : Course A) → IsSettled own course → (at : Place) (n m c d : ℕ) → FailsFirst course at n c → FailsFirst course at m d → (n ≡ m) × (c ≡ d)
unfolding FailsFirst IsSettled
first_is_one own (Give x) s at n m c d f g = absurd f
first_is_one own (Line node next) s at n m c d (inl f) (inl g) = (f.0 ∙ sym g.0, break_is_one at (early node) c d (LacksLine at) f.1 g.1)
first_is_one own (Line node next) s at n m c d (inl f) (inr g) = absurd (line_breaks_none at g.0 g.1 (early node) c g.2 f.1)
first_is_one own (Line node next) s at n m c d (inr f) (inl g) = absurd (line_breaks_none at f.0 f.1 (early node) d f.2 g.1)
first_is_one own (Line node next) s at n m c d (inr f) (inr g) = first_is_one own (next f.0) (s f.0) f.1 n m c d f.3 (same_after (λ x b. FailsFirst (next x) b m d) at f.0 g.0 f.1 g.1 f.2 g.2 g.3)
first_is_one own (Test k e X P next) s at n m c d (inl f) (inl g) = (f.0 ∙ sym g.0, f.1 ∙ sym g.1)
first_is_one own (Test k e X P next) s at n m c d (inl f) (inr g) = absurd (f.2 g.0 g.1)
first_is_one own (Test k e X P next) s at n m c d (inr f) (inl g) = absurd (g.2 f.0 f.1)
first_is_one own (Test k e X P next) s at n m c d (inr f) (inr g) = first_is_one own (next f.0) (s.2 f.0 f.1) at n m c d f.2 (subst (λ (y : X). FailsFirst (next y) at m d) (s.1 g.0 f.0 g.1 f.1) g.2)
first_is_one own (End next) s at n m c d (inl f) (inl g) = (f.0 ∙ sym g.0, break_is_one at 28 c d (HasMore at) f.1 g.1)
first_is_one own (End next) s at n m c d (inl f) (inr g) = absurd (end_breaks_none at c g.0 f.1)
first_is_one own (End next) s at n m c d (inr f) (inl g) = absurd (end_breaks_none at d f.0 g.1)
first_is_one own (End next) s at n m c d (inr f) (inr g) = first_is_one own next s at n m c d f.1 g.1

-- ---- one course after another

pub settled_then : {A B : Type 0} (own : ℕ → Type 0) (c : Course A) (f : A → Course B) → IsSettled own c → ((x : A) → IsSettled own (f x)) → IsSettled own (c >>= f)
unfolding IsSettled
settled_then own (Give x) f s t = t x
settled_then own (Line node next) f s t = λ line. settled_then own (next line) f (s line) t
settled_then own (Test n c X P next) f s t = (s.0, s.1, (λ x p. settled_then own (next x) f (s.2 x p) t), s.3)
settled_then own (End next) f s t = settled_then own next f s t

-- whatever the lines hold, it gives values with this property alone
unfoldable pub GivesOnly : {A : Type 0} → (A → Type 0) → Course A → Type 0
GivesOnly Has (Give x) = Has x
GivesOnly Has (Line node next) = (line : List ℕ) → GivesOnly Has (next line)
GivesOnly {A} Has (Test n c X P next) = (x : X) → P x → GivesOnly Has (next x)
GivesOnly Has (End next) = GivesOnly Has next

pub settled_with : {A B : Type 0} (own : ℕ → Type 0) (Has : A → Type 0) (c : Course A) (f : A → Course B) → IsSettled own c → GivesOnly Has c → ((x : A) → Has x → IsSettled own (f x)) → IsSettled own (c >>= f)
unfolding IsSettled GivesOnly
settled_with own Has (Give x) f s g t = t x g
settled_with own Has (Line node next) f s g t = λ line. settled_with own Has (next line) f (s line) (g line) t
settled_with own Has (Test n c X P next) f s g t = (s.0, s.1, (λ x p. settled_with own Has (next x) f (s.2 x p) (g x p) t), s.3)
settled_with own Has (End next) f s g t = settled_with own Has next f s g t

-- so does the second after the first
pub gives_only_then : {A B : Type 0} (Has : B → Type 0) (c : Course A) (f : A → Course B) → ((x : A) → GivesOnly Has (f x)) → GivesOnly Has (c >>= f)
unfolding GivesOnly
gives_only_then Has (Give x) f t = t x
gives_only_then Has (Line node next) f t = λ line. gives_only_then Has (next line) f t
gives_only_then Has (Test n c X P next) f t = λ x p. gives_only_then Has (next x) f t
gives_only_then Has (End next) f t = gives_only_then Has next f t

-- it gives what the second gives after the first
pub gives_then : {A B : Type 0} (c : Course A) (f : A → Course B) (at mid after : Place) (x : A) (y : B) → Gives c at x mid → Gives (f x) mid y after → Gives (c >>= f) at y after
unfolding Gives
gives_then (Give z) f at mid after x y p q = subst (λ (z : _). Gives (f z) at y after) (sym p.0) (subst (λ (m : Place). Gives (f x) m y after) (sym p.1) q)
gives_then (Line node next) f at mid after x y p q = (p.0, p.1, p.2, gives_then (next p.0) f p.1 mid after x y p.3 q)
gives_then (Test n c X P next) f at mid after x y p q = (p.0, p.1, gives_then (next p.0) f at mid after x y p.2 q)
gives_then (End next) f at mid after x y p q = (p.0, gives_then next f at mid after x y p.1 q)

-- what fails in the first fails in both
pub fails_before : {A B : Type 0} (c : Course A) (f : A → Course B) (at : Place) (n code : ℕ) → FailsFirst c at n code → FailsFirst (c >>= f) at n code
unfolding FailsFirst
fails_before (Give x) f at n code p = absurd p
fails_before (Line node next) f at n code (inr p) = inr (p.0, p.1, p.2, fails_before (next p.0) f p.1 n code p.3)
fails_before (Test m c X P next) f at n code (inl p) = inl p
fails_before (Test m c X P next) f at n code (inr p) = inr (p.0, p.1, fails_before (next p.0) f at n code p.2)
fails_before (End next) f at n code (inr p) = inr (p.0, fails_before next f at n code p.1)
fails_before c f at n code (inl p) = inl p

-- and what fails in the second fails after the first
pub fails_then : {A B : Type 0} (c : Course A) (f : A → Course B) (at mid : Place) (x : A) (n code : ℕ) → Gives c at x mid → FailsFirst (f x) mid n code → FailsFirst (c >>= f) at n code
unfolding Gives FailsFirst
fails_then (Give z) f at mid x n code p q = subst (λ (z : _). FailsFirst (f z) at n code) (sym p.0) (subst (λ (m : Place). FailsFirst (f x) m n code) (sym p.1) q)
fails_then (Line node next) f at mid x n code p q = inr (p.0, p.1, p.2, fails_then (next p.0) f p.1 mid x n code p.3 q)
fails_then (Test m c X P next) f at mid x n code p q = inr (p.0, p.1, fails_then (next p.0) f at mid x n code p.2 q)
fails_then (End next) f at mid x n code p q = inr (p.0, fails_then next f at mid x n code p.1 q)

-- ---- the code of a first fault

code_reported : (own : ℕ → Type 0) (c : Code) → IsCode own c → IsReported own (number_of c)
code_reported own (Kind fault) p = inl (fault, refl)
code_reported own (Own number) p = inr p

early_reported : (own : ℕ → Type 0) (node : Bool) → IsReported own (early node)
early_reported own true = inl (TreeEndsEarly, refl)
early_reported own false = inl (EndsEarly, refl)

break_reported : (own : ℕ → Type 0) (at : Place) (last : ℕ) (Other : Type 0) (code : ℕ) → IsReported own last → BreaksLine at last Other code → IsReported own code
break_reported own at last Other code n (document_too_long d) = inl (DocumentTooLong, refl)
break_reported own at last Other code n (line_too_long d l) = inl (LineTooLong, refl)
break_reported own at last Other code n (otherwise d l o) = n

-- a settled course fails first with such a code
pub fails_with_a_code : {A : Type 0} (own : ℕ → Type 0) (course : Course A) → IsSettled own course → (at : Place) (n code : ℕ) → FailsFirst course at n code → IsReported own code
unfolding FailsFirst IsSettled
fails_with_a_code own (Give x) s at n code f = absurd f
fails_with_a_code own (Line node next) s at n code (inl f) = break_reported own at (early node) (LacksLine at) code (early_reported own node) f.1
fails_with_a_code own (Line node next) s at n code (inr f) = fails_with_a_code own (next f.0) (s f.0) f.1 n code f.3
fails_with_a_code own (Test m c X P next) s at n code (inl f) = subst (IsReported own) (sym f.1) (code_reported own c s.3)
fails_with_a_code own (Test m c X P next) s at n code (inr f) = fails_with_a_code own (next f.0) (s.2 f.0 f.1) at n code f.2
fails_with_a_code own (End next) s at n code (inl f) = break_reported own at 28 (HasMore at) code (inl (AfterEnd, refl)) f.1
fails_with_a_code own (End next) s at n code (inr f) = fails_with_a_code own next s at n code f.1
