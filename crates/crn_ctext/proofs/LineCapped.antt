-- Numbers as they are held while a line is read: what is asked of them holds of the numbers of the line.
use Rattle.crn_ctext.proofs.Prelude.{◌≡◌, ◌≤◌, ◌<◌, ◌+◌, ◌++◌, ℕ, zero, suc, true, false, List, [], ◌∷◌, length, map, refl, sym, ap, ap₂, subst, ◌∙◌, inl, inr, arith, ℤ, pos, negsuc, ◌≤ℤ◌, unsigned_abs, slice_index, AllByRecursion, ints, length-map, append-nil, IsIn, MAX_REACTIONS, WIDE_SOLUTION, all_in, Field, Small, Several, Free, Rising, Members, CountAndPart, TwoOf, Turn, ClassWide, Takes, IsNarrow, AreNarrow, AreOf, AreBetween, capped, IsBounded, HasBounds, has_free, fields_of, IsJudged, MAX_NUMBERS, cases_Bool, all_append}
use Rattle.crn_ctext.specs.Records.{FreeSeveral}
use Rattle.crn_ctext.specs.declared.record_shape.Shape.{Shape}
use Rattle.crn_ctext.specs.declared.record_shape.Shape.TheVariants as shape
use Rattle.crn_ctext.specs.declared.record_shape.Fit.TheVariants as fit

-- ---- numbers that are held

abbrev pub AllNarrow : List ℤ → Type 0
AllNarrow zs = AllByRecursion IsNarrow zs

held_narrow : (z : ℤ) → IsNarrow z → capped z ≡ z
held_narrow (pos n) h = ap pos (omega (arith, h))
held_narrow (negsuc n) h = ap negsuc (omega (arith, h))

narrow_held : (z : ℤ) → IsNarrow (capped z) → IsNarrow z
narrow_held (pos n) h = omega (arith, h)
narrow_held (negsuc n) h = omega (arith, h)

pub all_held : (zs : List ℤ) → AllNarrow zs → map capped zs ≡ zs
all_held [] h = refl
all_held (z ∷ zs) h = ap₂ (λ x t. x ∷ t) (held_narrow z h.0) (all_held zs h.1)

pub all_narrow : (zs : List ℤ) → AllNarrow (map capped zs) → AllNarrow zs
all_narrow [] h = tt
all_narrow (z ∷ zs) h = (narrow_held z h.0, all_narrow zs h.1)

-- ---- numbers of a range

between_narrow : (a b z : ℤ) → unsigned_abs a < WIDE_SOLUTION → unsigned_abs b < WIDE_SOLUTION → a ≤ℤ z → z ≤ℤ b → IsNarrow z
between_narrow a (pos b) (pos n) p q low high = omega (arith, ints, q, high)
between_narrow a (negsuc b) (pos n) p q low high = absurd (omega (arith, ints, high))
between_narrow (pos a) b (negsuc n) p q low high = absurd (omega (arith, ints, low))
between_narrow (negsuc a) b (negsuc n) p q low high = omega (arith, ints, p, low)

all_between : (a b : ℤ) (zs : List ℤ) → unsigned_abs a < WIDE_SOLUTION → unsigned_abs b < WIDE_SOLUTION → AreBetween a b zs → AllNarrow zs
all_between a b [] p q h = tt
all_between a b (z ∷ zs) p q h = (between_narrow a b z p q h.0.0 h.0.1, all_between a b zs p q h.1)

all_up_to : (greatest : ℕ) (zs : List ℤ) → greatest < WIDE_SOLUTION → AreBetween (pos 1) (pos greatest) zs → AllNarrow zs
all_up_to greatest zs lt h = all_between (pos 1) (pos greatest) zs (omega arith) lt h

all_members : (members ns : List ℕ) → AllByRecursion (λ m. m ≤ MAX_REACTIONS) members → AllByRecursion (λ n. IsIn n members) ns → AllNarrow (map pos ns)
all_members members [] h i = tt
all_members members (n ∷ ns) h i = (let le = all_in (λ m. m ≤ MAX_REACTIONS) members n h i.0 in omega (arith, le), all_members members ns h i.1)

at_bound : (k i : ℕ) (rs : List ℕ) → AllByRecursion (λ r. r ≤ k) rs → slice_index rs i ≤ k
at_bound k i [] h = omega arith
at_bound k zero (r ∷ rs) h = h.0
at_bound k (suc i) (r ∷ rs) h = at_bound k i rs h.1

-- no field of free numbers
abbrev pub IsSolid : Field → Type 0
IsSolid (Free count) = ⊥
IsSolid (FreeSeveral fewest most) = ⊥
IsSolid other = Unit {0}

-- the numbers of a field that is not free are narrow
pub field_narrow : (field : Field) (zs : List ℤ) → IsSolid field → IsBounded field → Takes field zs → AllNarrow zs
field_narrow (Small count least greatest) zs s b t = all_between least greatest zs b.0 b.1 t.1
field_narrow (Several fewest most least greatest) zs s b t = all_between least greatest zs b.0 b.1 t.2
field_narrow (Rising count greatest) zs s b t = all_up_to greatest zs b t.1.3
field_narrow (Members count members) zs s b t = subst AllNarrow (sym t.1) (all_members members t.0 b.1 t.4)
field_narrow (CountAndPart greatest) zs s b t = subst AllNarrow (sym t.2) (omega (arith, b, t.5), (omega (arith, b, t.4, t.5), tt))
field_narrow (TwoOf greatest) zs s b t = all_up_to greatest zs b t.4
field_narrow Turn zs s b (inl e) = subst AllNarrow (sym e) (omega arith, tt)
field_narrow Turn zs s b (inr e) = subst AllNarrow (sym e) (omega arith, tt)
field_narrow (ClassWide species reactions) zs s b t =
    let r = at_bound MAX_REACTIONS t.0 reactions b.2 in
    subst AllNarrow (sym t.3) (
      omega (arith, t.4, b.1),
      (omega (arith, t.6, b.0, r), all_up_to (species + slice_index reactions t.0) t.2 (omega (arith, b.0, r)) t.8.3),
    )
field_narrow field zs s b t = absurd s

solid_narrow : (fields : List Field) (zs : List ℤ) → AllByRecursion IsSolid fields → AllByRecursion IsBounded fields → AreOf Takes fields zs → AllNarrow zs
solid_narrow [] zs s b t = subst AllNarrow (sym t) tt
solid_narrow (f ∷ fields) zs s b t = subst AllNarrow (sym t.2) (all_append IsNarrow t.0 t.1 (field_narrow f t.0 s.0 b.0 t.3) (solid_narrow fields t.1 s.1 b.1 t.4))

abbrev pub TakesNarrow : Field → List ℤ → Type 0
TakesNarrow field zs = Takes field zs × AreNarrow field zs

field_both : (field : Field) (zs : List ℤ) → IsSolid field → Takes field zs → TakesNarrow field zs
field_both (Free count) zs s t = absurd s
field_both (FreeSeveral fewest most) zs s t = absurd s
field_both field zs s t = (t, tt)

solid_both : (fields : List Field) (zs : List ℤ) → AllByRecursion IsSolid fields → AreOf Takes fields zs → AreOf TakesNarrow fields zs
solid_both [] zs s t = t
solid_both (f ∷ fields) zs s t = (t.0, t.1, t.2, field_both f t.0 s.0 t.3, solid_both fields t.1 s.1 t.4)

-- ---- judging

pub solid_misfit : (fields : List Field) (zs held : List ℤ) → AllByRecursion IsSolid fields → AllByRecursion IsBounded fields → held ≡ map capped zs → (AreOf Takes fields held → ⊥) → AreOf Takes fields zs → ⊥
solid_misfit fields zs held s b e none t = none (subst (AreOf Takes fields) (sym (e ∙ all_held zs (solid_narrow fields zs s b t))) t)

pub solid_fits : (fields : List Field) (zs held : List ℤ) → AllByRecursion IsSolid fields → AllByRecursion IsBounded fields → held ≡ map capped zs → AreOf Takes fields held
    → AreOf Takes fields zs × AreOf TakesNarrow fields zs × (held ≡ zs)
solid_fits fields zs held s b e t =
    let same : held ≡ zs = e ∙ all_held zs (all_narrow zs (subst AllNarrow e (solid_narrow fields held s b t))) in
    let fits = subst (AreOf Takes fields) same t in
    (fits, solid_both fields zs s fits, same)

-- a field of free numbers requires their count alone
abbrev pub IsFree : Field → Type 0
IsFree (Free count) = Unit {0}
IsFree (FreeSeveral fewest most) = Unit {0}
IsFree other = ⊥

free_takes : (field : Field) (ys zs : List ℤ) → IsFree field → length ys ≡ length zs → Takes field ys → Takes field zs
free_takes (Free count) ys zs f e t = sym e ∙ t
free_takes (FreeSeveral fewest most) ys zs f e t = (omega (arith, e, t.0), omega (arith, e, t.1))
free_takes field ys zs f e t = absurd f

free_narrow : (field : Field) (zs : List ℤ) → IsFree field → AllNarrow zs → AreNarrow field zs
free_narrow (Free count) zs f h = h
free_narrow (FreeSeveral fewest most) zs f h = h
free_narrow field zs f h = absurd f

narrow_free : (field : Field) (zs : List ℤ) → IsFree field → AreNarrow field zs → AllNarrow zs
narrow_free (Free count) zs f h = h
narrow_free (FreeSeveral fewest most) zs f h = h
narrow_free field zs f h = absurd f

alone_of : (P : Field → List ℤ → Type 0) (field : Field) (zs : List ℤ) → P field zs → AreOf P (field ∷ []) zs
alone_of P field zs p = (zs, [], sym (append-nil zs), p, refl)

of_alone : (P : Field → List ℤ → Type 0) (field : Field) (zs : List ℤ) → AreOf P (field ∷ []) zs → P field zs
of_alone P field zs h = subst (P field) (sym (h.2 ∙ ap (λ t. h.0 ++ t) h.4 ∙ append-nil h.0)) h.3

same_length : (zs held : List ℤ) → held ≡ map capped zs → length held ≡ length zs
same_length zs held e = ap length e ∙ length-map zs capped

pub free_misfit : (field : Field) (zs held : List ℤ) → IsFree field → held ≡ map capped zs → (AreOf Takes (field ∷ []) held → ⊥) → AreOf Takes (field ∷ []) zs → ⊥
free_misfit field zs held f e none t = none (alone_of Takes field held (free_takes field zs held f (sym (same_length zs held e)) (of_alone Takes field zs t)))

free_fit : (field : Field) (zs held : List ℤ) → IsFree field → held ≡ map capped zs → AreOf Takes (field ∷ []) held → AreOf Takes (field ∷ []) zs
free_fit field zs held f e t = alone_of Takes field zs (free_takes field held zs f (same_length zs held e) (of_alone Takes field held t))

pub free_fits : (field : Field) (zs held : List ℤ) → IsFree field → held ≡ map capped zs → AreOf Takes (field ∷ []) held → AllNarrow held
    → AreOf Takes (field ∷ []) zs × AreOf TakesNarrow (field ∷ []) zs × (held ≡ zs)
free_fits field zs held f e t h =
    let narrow = all_narrow zs (subst AllNarrow e h) in
    let fits = free_fit field zs held f e t in
    (fits, alone_of TakesNarrow field zs (of_alone Takes field zs fits, free_narrow field zs f narrow), e ∙ all_held zs narrow)

pub free_wide : (field : Field) (zs held : List ℤ) → IsFree field → held ≡ map capped zs → AreOf Takes (field ∷ []) held → (AllNarrow held → ⊥)
    → AreOf Takes (field ∷ []) zs × (AreOf TakesNarrow (field ∷ []) zs → ⊥)
free_wide field zs held f e t none = (
  free_fit field zs held f e t,
  λ h. let narrow = narrow_free field zs f (of_alone TakesNarrow field zs h).1 in none (subst AllNarrow (sym (e ∙ all_held zs narrow)) narrow),
)

-- ---- shapes

solid_shape : (s : Shape) → has_free s ≡ false → AllByRecursion IsSolid (fields_of s)
solid_shape shape.Empty e = tt
solid_shape (shape.Free count) e = absurd cc
solid_shape shape.Vector e = absurd cc
solid_shape (shape.ClassAndCount classes complexes) e = (tt, (tt, tt))
solid_shape (shape.Side reaction complexes) e = (tt, (tt, tt))
solid_shape (shape.Wide system columns coordinates) e = (tt, (tt, (tt, (tt, tt))))
solid_shape (shape.ClassWide species reactions) e = (tt, (tt, tt))
solid_shape s e = (tt, tt)

free_shape : (s : Shape) → has_free s ≡ true → (field : Field) × (fields_of s ≡ field ∷ []) × IsFree field
free_shape (shape.Free count) e = (Free count, refl, tt)
free_shape shape.Vector e = (FreeSeveral 1 MAX_NUMBERS, refl, tt)
free_shape s e = absurd cc

pub judged_misfit : (s : Shape) (zs held : List ℤ) → HasBounds s → held ≡ map capped zs → (AreOf Takes (fields_of s) held → ⊥) → AreOf Takes (fields_of s) zs → ⊥
judged_misfit s zs held b e none t = elim (cases_Bool (has_free s)) [
  | inl free ↦ let f = free_shape s free in
      free_misfit f.0 zs held f.2 e (λ h. none (subst (λ fs. AreOf Takes fs held) (sym f.1) h)) (subst (λ fs. AreOf Takes fs zs) f.1 t)
  | inr solid ↦ solid_misfit (fields_of s) zs held (solid_shape s solid) b e none t
]

pub judged_solid : (s : Shape) (zs held : List ℤ) → HasBounds s → held ≡ map capped zs → has_free s ≡ false → AreOf Takes (fields_of s) held → IsJudged fit.Fits (fields_of s) zs held
judged_solid s zs held b e solid t = solid_fits (fields_of s) zs held (solid_shape s solid) b e t

pub judged_fits : (s : Shape) (zs held : List ℤ) → held ≡ map capped zs → has_free s ≡ true → AreOf Takes (fields_of s) held → AllNarrow held → IsJudged fit.Fits (fields_of s) zs held
judged_fits s zs held e free t h =
    let f = free_shape s free in
    subst (λ fs. IsJudged fit.Fits fs zs held) (sym f.1) (free_fits f.0 zs held f.2 e (subst (λ fs. AreOf Takes fs held) f.1 t) h)

pub judged_wide : (s : Shape) (zs held : List ℤ) → held ≡ map capped zs → has_free s ≡ true → AreOf Takes (fields_of s) held → (AllNarrow held → ⊥) → IsJudged fit.TooWide (fields_of s) zs held
judged_wide s zs held e free t none =
    let f = free_shape s free in
    subst (λ fs. IsJudged fit.TooWide fs zs held) (sym f.1) (free_wide f.0 zs held f.2 e (subst (λ fs. AreOf Takes fs held) f.1 t) none)
