-- Reactions by the species that they change.
use Rattle.crn_siphon.proofs.Prelude.{unsigned_abs, ◌^◌, FitsSigned, fits_signed_mul, w128, take, set, take_more, get_or-set_same, get_or-set_other, any_default, zero_adds, ◌≡◌, ◌≢◌, ◌<◌, ◌≤◌, ◌+◌, ◌==◌, ℕ, inl, inr, Bool, true, false, List, [], ◌∷◌, ◌++◌, length, get_or, refl, sym, ap, subst, ◌∙◌, arith, ints, ℤ, pos, ◌+ℤ◌, ◌*ℤ◌, cases_Bool, eq-eqb, eqb-true, get_or-append, get_or_push, length-append, eq_or, Net, reaction_vector, entry, Change, Changes, AreChanges, part_at, change_at, distrib}

-- what a change changes
pub part_here : (k : ℕ) (by : ℤ) (s : ℕ) → k ≡ s → part_at k by s ≡ by
part_here k by s e = rw (eq-eqb k s e) refl

pub part_other : (k : ℕ) (by : ℤ) (s : ℕ) → s ≢ k → part_at k by s ≡ pos 0
part_other k by s ne = elim (cases_Bool (k == s)) as (λ _. part_at k by s ≡ pos 0) [
  | inl same ↦ absurd (ne (sym (eqb-true k s same)))
  | inr apart ↦ rw apart refl
]

-- a change by 0 changes nothing
pub part_none : (x : ℤ) (k : ℕ) (by : ℤ) (s : ℕ) → by ≡ pos 0 → x ≡ x +ℤ part_at k by s
part_none x k by s e = elim (eq_or s k) as (λ _. x ≡ x +ℤ part_at k by s) [
  | inl same ↦ omega (arith, ints, part_here k by s (sym same), e)
  | inr ne ↦ omega (arith, ints, part_other k by s ne)
]

-- one change more
pub change_push : (changes : List Change) (c : Change) (s : ℕ) → change_at (changes ++ c ∷ []) s ≡ change_at changes s +ℤ part_at c.species c.by s
change_push [] c s = omega (arith, ints)
change_push (x ∷ changes) c s = omega (arith, ints, change_push changes c s)

-- the entries of a vector so far, and one more
pub entry_done : (v : List ℤ) (before after : List Change) (k : ℕ) → ((s : ℕ) → change_at after s ≡ change_at before s +ℤ part_at k (entry v k) s) → ((s : ℕ) → s < k → change_at before s ≡ entry v s) → ((s : ℕ) → k ≤ s → change_at before s ≡ pos 0)
    → (s : ℕ) → s < k + 1 → change_at after s ≡ entry v s
entry_done v before after k more done rest s lt = elim (eq_or s k) as (λ _. change_at after s ≡ entry v s) [
  | inl same ↦ omega (arith, ints, more s, rest s (omega (arith, same)), part_here k (entry v k) s (sym same), ap (λ (j : ℕ). entry v j) same)
  | inr ne ↦ omega (arith, ints, more s, done s (omega (arith, lt, ne)), part_other k (entry v k) s ne)
]

pub entry_rest : (v : List ℤ) (before after : List Change) (k : ℕ) → ((s : ℕ) → change_at after s ≡ change_at before s +ℤ part_at k (entry v k) s) → ((s : ℕ) → k ≤ s → change_at before s ≡ pos 0) → (s : ℕ) → k + 1 ≤ s → change_at after s ≡ pos 0
entry_rest v before after k more rest s le = omega (arith, ints, more s, rest s (omega (arith, le)), part_other k (entry v k) s (λ e. omega (arith, le, e)))

-- the changes so far, with one more
pub changed : (n x y a b : ℤ) → y ≡ x +ℤ n *ℤ a → y +ℤ n *ℤ b ≡ x +ℤ n *ℤ (a +ℤ b)
changed n x y a b e = omega (arith, ints, e, distrib n a b)

-- one of a reaction's changes is added
pub put_at : (old changes : List ℤ) (n : ℤ) (reaction : List Change) (i : ℕ) (d e : Change) (z none : ℤ) (s : ℕ) → i < length reaction → (get_or reaction i d).species < length changes → z ≡ get_or changes (get_or reaction i d).species none +ℤ n *ℤ (get_or reaction i e).by
    → entry changes s ≡ entry old s +ℤ n *ℤ change_at (take i reaction) s → entry (set changes (get_or reaction i d).species z) s ≡ entry old s +ℤ n *ℤ change_at (take (i + 1) reaction) s
put_at old changes n reaction i d e z none s lt inside is before =
    let c = get_or reaction i d in
    let a = change_at (take i reaction) s in
    let b = part_at c.species c.by s in
    let y = entry changes s in
    let more : change_at (take (i + 1) reaction) s ≡ a +ℤ b = ap (λ (l : List Change). change_at l s) (take_more reaction i d lt) ∙ change_push (take i reaction) c s in
    let next : entry (set changes c.species z) s ≡ y +ℤ n *ℤ b = elim (eq_or s c.species) as (λ _. entry (set changes c.species z) s ≡ y +ℤ n *ℤ b) [
      | inl same ↦
          ap (λ (k : ℕ). entry (set changes c.species z) k) same ∙ get_or-set_same changes c.species z (pos 0) inside ∙ is
          ∙ ap (λ (v : ℤ). v +ℤ n *ℤ (get_or reaction i e).by) (any_default none (pos 0) changes c.species inside ∙ ap (λ (k : ℕ). entry changes k) (sym same))
          ∙ ap (λ (v : ℤ). y +ℤ n *ℤ v) (ap (λ (x : Change). x.by) (any_default e d reaction i lt) ∙ sym (part_here c.species c.by s (sym same)))
      | inr ne ↦ get_or-set_other changes c.species s z (pos 0) ne ∙ zero_adds y n b (part_other c.species c.by s ne)
    ] in
    next ∙ changed n (entry old s) y a b before ∙ ap (λ (v : ℤ). entry old s +ℤ n *ℤ v) (sym more)

-- the product of small numbers fits
pub small_product : (x y : ℤ) → unsigned_abs x < 2 ^ 62 → unsigned_abs y < 2 ^ 62 → FitsSigned w128 (x *ℤ y)
small_product x y h g = fits_signed_mul w128 x y (2 ^ 62) (2 ^ 62) (omega (arith, h)) (omega (arith, g)) (omega arith)

-- the reactions of one more
pub all_more : (net : Net) (r : ℕ) (all : List Changes) (one : Changes) → AreChanges net r all → ((s : ℕ) → change_at one.list.items s ≡ entry (reaction_vector net (get_or net.reactions r (0, 0))) s) → AreChanges net (r + 1) (all ++ one ∷ [])
all_more net r all one h is = record {
  long = omega (arith, length-append all (one ∷ []), h.long);
  each = λ k s none lt. elim (eq_or k r) as (λ _. change_at (get_or (all ++ one ∷ []) k none).list.items s ≡ entry (reaction_vector net (get_or net.reactions k (0, 0))) s) [
    | inl same ↦
        let last : get_or (all ++ one ∷ []) k none ≡ one = get_or_push all one none k (h.long ∙ sym same) in
        ap (λ (x : Changes). change_at x.list.items s) last ∙ is s ∙ ap (λ (j : ℕ). entry (reaction_vector net (get_or net.reactions j (0, 0))) s) (sym same)
    | inr ne ↦
        let less : k < r = omega (arith, lt, ne) in
        ap (λ (x : Changes). change_at x.list.items s) (get_or-append all (one ∷ []) none k (omega (arith, less, h.long))) ∙ (let each = h.each in each k s none less)
  ];
}
