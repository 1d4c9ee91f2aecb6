-- What awaits a line: one course before or after another, and a shorter text.
use Rattle.crn_ctext.proofs.Prelude.{◌≡◌, ◌⊎◌, ◌++◌, ℕ, List, [], ◌∷◌, refl, sym, ap, subst, ◌∙◌, inl, inr, Place, IsLineAt, IsBegun, line_begun, begun_or_more, Course, Give, Line, Test, End, ◌>>=◌, Gives, Awaits, cut}

-- what awaits a line in the first of two courses awaits it in both
pub awaits_before : {A B : Type 0} (c : Course A) (f : A → Course B) (at : Place) → Awaits c at → Awaits (c >>= f) at
unfolding Awaits
awaits_before (Give x) f at p = absurd p
awaits_before (Line node next) f at (inr p) = inr (p.0, p.1, p.2, awaits_before (next p.0) f p.1 p.3)
awaits_before (Test m c X P next) f at p = (p.0, p.1, awaits_before (next p.0) f at p.2)
awaits_before (End next) f at (inr p) = inr (p.0, awaits_before next f at p.1)
awaits_before c f at (inl p) = inl p

none_begins : (x y : List ℕ) → x ++ y ≡ [] → x ≡ []
none_begins [] y e = refl
none_begins (b ∷ x) y e = absurd cc

-- What begins a text that begins with a line is the beginning of this line, or has it and goes on.
line_or_more : (at after : Place) (line begun last : List ℕ) → IsLineAt at line after → at.left ≡ begun ++ last
    → IsBegun at.before begun ⊎ ((more : List ℕ) × IsLineAt (cut at begun) line (cut after more) × (after.left ≡ more ++ last))
line_or_more at after line begun last p e = elim (begun_or_more begun last line after.left (sym e ∙ p.left)) [
  | inl q ↦ inl (line_begun at after line begun q.0 p q.1)
  | inr q ↦ inr (q.0, record { left = q.1; whole = p.whole; short = p.short; next = p.next; before = p.before; bound = p.bound }, q.2)
]

-- A text that begins as one of which the first of two courses gives something: it ends in a line of the first, or it awaits one after it.
pub awaits_after : {A B : Type 0} (c : Course A) (f : A → Course B) (at end : Place) (y : A) (begun last : List ℕ) → Gives c at y end → at.left ≡ begun ++ last
    → ((more : List ℕ) → end.left ≡ more ++ last → Awaits (f y) (cut end more)) → Awaits (c >>= f) (cut at begun)
unfolding Gives Awaits
awaits_after (Give x) f at end y begun last g e h =
    subst (λ (z : _). Awaits (f z) (cut at begun)) (sym g.0) (subst (λ (p : Place). Awaits (f y) (cut p begun)) (sym g.1) (h begun (sym (ap (λ (p : Place). p.left) g.1) ∙ e)))
awaits_after (Line node next) f at end y begun last g e h = elim (line_or_more at g.1 g.0 begun last g.2 e) [
  | inl q ↦ inl q
  | inr q ↦ inr (g.0, cut g.1 q.0, q.1, awaits_after (next g.0) f g.1 end y q.0 last g.3 q.2 h)
]
awaits_after (Test n c X P next) f at end y begun last g e h = (g.0, g.1, awaits_after (next g.0) f at end y begun last g.2 e h)
awaits_after (End next) f at end y begun last g e h =
    inr ((λ more. g.0 (λ none. more (none_begins begun last (sym e ∙ none)))), awaits_after next f at end y begun last g.1 e h)

-- what two courses await, in the first or after it
pub awaits_parts : {A B : Type 0} (c : Course A) (f : A → Course B) (at : Place) → Awaits (c >>= f) at → Awaits c at ⊎ ((x : A) × (mid : Place) × Gives c at x mid × Awaits (f x) mid)
unfolding Gives Awaits
awaits_parts (Give x) f at p = inr (x, at, (refl, refl), p)
awaits_parts (Line node next) f at (inl p) = inl (inl p)
awaits_parts (Line node next) f at (inr p) = elim (awaits_parts (next p.0) f p.1 p.3) [
  | inl q ↦ inl (inr (p.0, p.1, p.2, q))
  | inr q ↦ inr (q.0, q.1, (p.0, p.1, p.2, q.2), q.3)
]
awaits_parts (Test m c X P next) f at p = elim (awaits_parts (next p.0) f at p.2) [
  | inl q ↦ inl (p.0, p.1, q)
  | inr q ↦ inr (q.0, q.1, (p.0, p.1, q.2), q.3)
]
awaits_parts (End next) f at (inl p) = inl (inl p)
awaits_parts (End next) f at (inr p) = elim (awaits_parts next f at p.1) [
  | inl q ↦ inl (inr (p.0, q))
  | inr q ↦ inr (q.0, q.1, (p.0, q.2), q.3)
]

-- what awaits a line in the second of two courses awaits it in both, after what the first gives
pub awaits_then : {A B : Type 0} (c : Course A) (f : A → Course B) (at mid : Place) (x : A) → Gives c at x mid → Awaits (f x) mid → Awaits (c >>= f) at
unfolding Gives Awaits
awaits_then (Give z) f at mid x p q = subst (λ (z : _). Awaits (f z) at) (sym p.0) (subst (λ (m : Place). Awaits (f x) m) (sym p.1) q)
awaits_then (Line node next) f at mid x p q = inr (p.0, p.1, p.2, awaits_then (next p.0) f p.1 mid x p.3 q)
awaits_then (Test n c X P next) f at mid x p q = (p.0, p.1, awaits_then (next p.0) f at mid x p.2 q)
awaits_then (End next) f at mid x p q = inr (p.0, awaits_then next f at mid x p.1 q)
