-- The records of a document on endotactic networks, one by one: what their lines say, and that those of formed answers fit.
use Rattle.crn_endo_text.proofs.Prelude.{◌≡◌, ◌≤◌, ◌-◌, ◌⊎◌, ◌++◌, ℕ, Bool, true, false, List, [], ◌∷◌, length, map, refl, sym, ap, subst, ◌∙◌, inl, inr, arith, ℤ, pos, codes, range_with_len, eqb-true, eq-eqb, length-range_with_len, IsIn, Net, IsNetwork, MAX_BUDGET, MAX_COMPLEXES, MAX_COORDINATES, filter_few, IsBasisOf, AreFree, IsFrom, Record, Form, small, record_form, small_form, IsOneOf, one_word, small_record, IsBounded, number_back, number_then, number_fits, one_number, record_is, free_row, bare_back, wide_fields, wide_numbers, wide_numbers_fit, reactions_few, species_few, small_bounded, row_count, IsSmallEnough, is_reactant, reactants, slope_size, is_small, yes_forms, wide_form, spent_form, other_forms, verdict_forms, node_forms}
use Rattle.crn_ctext.specs.Records.{Fits}

-- ---- the sizes

pub small_back : (net : Net) → is_small net ≡ true → IsSmallEnough net
small_back net e = let none : slope_size net - MAX_COORDINATES ≡ 0 = eqb-true (slope_size net - MAX_COORDINATES) 0 e in omega (arith, none)

pub small_on : (net : Net) → IsSmallEnough net → is_small net ≡ true
small_on net s = eq-eqb (slope_size net - MAX_COORDINATES) 0 (omega (arith, s))

pub large_on : (net : Net) → (IsSmallEnough net → ⊥) → is_small net ≡ false
large_on net none = by (is_small net) refl
  where
    by : (b : Bool) → is_small net ≡ b → is_small net ≡ false
    by true e = absurd (none (small_back net e))
    by false e = e

-- a cut has no more numbers than a line
pub rows_few : (net : Net) → IsSmallEnough net → row_count net ≤ 400
rows_few net s = omega (arith, s)

-- ---- the line of the verdict

-- one of the forms of a verdict is that of a yes, or one of the others
abbrev IsVerdict : Net → Form → Type 0
IsVerdict net form = ((is_small net ≡ true) × (form ≡ record_form (codes "yes") [])) ⊎ IsIn form (other_forms net)

pub verdict_back : (net : Net) (form : Form) → IsIn form (verdict_forms net) → IsVerdict net form
verdict_back net form i = by (is_small net) refl i
  where
    by : (small : Bool) → is_small net ≡ small → IsIn form (yes_forms small ++ other_forms net) → IsVerdict net form
    by true e (inl same) = inl (e, same)
    by true e (inr other) = inr other
    by false e other = inr other

pub yes_due : (net : Net) → IsSmallEnough net → IsIn (record_form (codes "yes") []) (verdict_forms net)
yes_due net s = subst (λ (b : Bool). IsIn (record_form (codes "yes") []) (yes_forms b ++ other_forms net)) (sym (small_on net s)) (inl refl)

pub other_due : (net : Net) (form : Form) → IsIn form (other_forms net) → IsIn form (verdict_forms net)
other_due net form i = by (is_small net)
  where
    by : (small : Bool) → IsIn form (yes_forms small ++ other_forms net)
    by true = inr i
    by false = i

pub wide_back : (reactions columns rows : ℕ) (r : Record) → Fits (wide_form reactions columns rows) r
    → (reaction index : ℕ) × (basis : List ℕ) × (r ≡ small_record (codes "wide") (reaction ∷ index ∷ basis)) × IsFrom 1 reactions reaction × IsBasisOf columns rows index basis
wide_back reactions columns rows r f =
    let a = number_back 1 reactions (wide_fields columns rows) r.numbers f.1 in
    let w = wide_numbers columns rows a.1 a.4 in
    (a.0, w.0, w.1, record_is r (codes "wide" ∷ []) (map pos (a.0 ∷ w.0 ∷ w.1)) f.0 (a.2 ∙ ap (λ (xs : List ℤ). pos a.0 ∷ xs) w.2), a.3, w.3)

pub wide_fits : (reactions columns rows reaction index : ℕ) (basis : List ℕ) → IsFrom 1 reactions reaction → IsBasisOf columns rows index basis → Fits (wide_form reactions columns rows) (small_record (codes "wide") (reaction ∷ index ∷ basis))
wide_fits reactions columns rows reaction index basis from b =
    (refl, number_then 1 reactions reaction (wide_fields columns rows) (map pos (index ∷ basis)) from.0 from.1 (wide_numbers_fit columns rows index basis b))

pub spent_back : (reactions : ℕ) (r : Record) → Fits (spent_form reactions) r → (reaction nodes : ℕ) × (r ≡ small_record (codes "spent") (reaction ∷ nodes ∷ [])) × IsFrom 1 reactions reaction × IsFrom 1 MAX_BUDGET nodes
spent_back reactions r f =
    let a = number_back 1 reactions (small 1 1 MAX_BUDGET ∷ []) r.numbers f.1 in
    let b = one_number 1 MAX_BUDGET a.1 a.4 in
    (a.0, b.0, record_is r (codes "spent" ∷ []) (pos a.0 ∷ pos b.0 ∷ []) f.0 (a.2 ∙ ap (λ (xs : List ℤ). pos a.0 ∷ xs) b.1), a.3, b.2)

pub spent_fits : (reactions reaction nodes : ℕ) → IsFrom 1 reactions reaction → IsFrom 1 MAX_BUDGET nodes → Fits (spent_form reactions) (small_record (codes "spent") (reaction ∷ nodes ∷ []))
spent_fits reactions reaction nodes from few = (refl, number_then 1 reactions reaction (small 1 1 MAX_BUDGET ∷ []) (pos nodes ∷ []) from.0 from.1 (number_fits MAX_BUDGET nodes few.0 few.1))

-- ---- nodes

-- a node is a split, a flat or a cut
abbrev pub IsNode : ℕ → Record → Type 0
IsNode rows r = (r ≡ one_word (codes "split") [])
    ⊎ ((r ≡ one_word (codes "flat") []) ⊎ ((u : List ℤ) × (r ≡ one_word (codes "cuta") u) × AreFree rows u))

pub node_back : (rows : ℕ) (r : Record) → IsOneOf (node_forms rows) r → IsNode rows r
node_back rows r (form, inl e, f) = inl (bare_back (codes "split") r (subst (λ (x : Form). Fits x r) e f))
node_back rows r (form, inr (inl e), f) = inr (inl (bare_back (codes "flat") r (subst (λ (x : Form). Fits x r) e f)))
node_back rows r (form, inr (inr (inl e)), f) =
    let b = free_row (codes "cuta") rows r (subst (λ (x : Form). Fits x r) e f) in
    inr (inr (r.numbers, b.0, b.1))
node_back rows r (form, inr (inr (inr none)), f) = absurd none

-- ---- bounds

pub no_row : (net : Net) → IsNetwork net → IsBounded (small_form (codes "no") 1 1 (length net.reactions))
no_row net n = small_bounded (codes "no") 1 1 (length net.reactions) refl (omega arith) (omega arith) (omega (arith, reactions_few net n))

pub spent_row : (net : Net) → IsNetwork net → IsBounded (spent_form (length net.reactions))
spent_row net n = record { words = refl; few = omega arith; fields = ((omega arith, omega (arith, reactions_few net n)), ((omega arith, omega arith), tt)) }

-- there are no more reactant complexes than complexes
pub reactants_few : (net : Net) → IsNetwork net → length (reactants net) ≤ MAX_COMPLEXES
reactants_few net n = omega (arith, n.partial.complexes_limit, filter_few (is_reactant net) (range_with_len 0 (length net.complexes)), length-range_with_len 0 (length net.complexes))

pub wide_row : (net : Net) → IsNetwork net → IsBounded (wide_form (length net.reactions) (length net.names) (row_count net))
wide_row net n = record {
  words = refl;
  few = omega (arith, species_few net n, n.partial.species_limit);
  fields = ((omega arith, omega (arith, reactions_few net n)), ((omega arith, omega (arith, n.partial.species_limit, n.partial.reactions_limit, reactants_few net n)), (omega (arith, n.partial.species_limit, n.partial.reactions_limit, reactants_few net n), tt)));
}
