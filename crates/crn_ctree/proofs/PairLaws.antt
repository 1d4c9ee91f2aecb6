-- When two lists show a table discordant, by the signs of the sums.
use Rattle.crn_ctree.proofs.Prelude.{◌≡◌, ℕ, zero, suc, ◌<◌, ◌⊎◌, inl, inr, List, [], ◌∷◌, length, get_or, map, true, false, refl, sym, ap, subst, ◌∙◌, arith, ℤ, pos, negsuc, AllByRecursion, AllZip, ints, false≢true, get_or-map, length-map, ext_get_or, get_or-map-range_with_len, Sign, Zero, Net, IsNetwork, vectors, reaction_system, by_species, dot, entry, column, all_zero, IsDiscordant, IsNought, HasPositive, HasNegative, image, sign, IsTable, column_kind, networks_have_tables, rows_count, zeros_signs, some_or_zeros, some_not_zero, columns_have, columns_go, HasKind, AreOfColumns, table_of, InfluenceTable, Plain, Strong}

-- ---- the sum of the reaction vectors

-- its entry at a species
pub image_entry : (net : Net) (z : List ℤ) (s : ℕ) → s < length net.names → dot (column (vectors net) s) z ≡ entry (image (reaction_system net) z) s
image_entry net z s lt =
    ap (λ (row : List ℤ). dot row z) (sym (get_or-map-range_with_len (column (vectors net)) 0 (length net.names) s s [] lt (omega arith)))
    ∙ sym (get_or-map (λ row. dot row z) (by_species net (vectors net)) s [] (pos 0) (omega (arith, lt, rows_count net)))

pub image_long : (net : Net) (z : List ℤ) → length (image (reaction_system net) z) ≡ length net.names
image_long net z = length-map (by_species net (vectors net)) (λ row. dot row z) ∙ rows_count net

-- a list of its signs at all species
pub signs_are : (net : Net) (z : List ℤ) (signs : List Sign) → length signs ≡ length net.names → ((s : ℕ) → s < length net.names → get_or signs s Zero ≡ sign (entry (image (reaction_system net) z) s)) → signs ≡ map sign (image (reaction_system net) z)
signs_are net z signs long each =
    let sums = image (reaction_system net) z in
    ext_get_or Zero signs (map sign sums) (long ∙ sym (image_long net z) ∙ sym (length-map sums sign))
    (λ s lt. each s (omega (arith, lt, long)) ∙ sym (get_or-map sign sums s (pos 0) Zero (omega (arith, lt, long, image_long net z))))

-- ---- signs of sums

noughts_zero : (xs : List ℤ) → AllByRecursion IsNought xs → all_zero (map sign xs) ≡ true
noughts_zero [] h = refl
noughts_zero (pos zero ∷ xs) h = noughts_zero xs h.1
noughts_zero (pos (suc n) ∷ xs) h = absurd (omega (arith, ints, h.0))
noughts_zero (negsuc n ∷ xs) h = absurd (omega (arith, ints, h.0))

-- ---- signs of shares

-- ---- one reaction

-- ---- the two lists

-- numbers that are of the kinds of their columns are so of these kinds in a list, and conversely
kinds_listed : (table : List (List Sign)) (p : List Sign) (alpha : List ℤ) → AreOfColumns table p alpha → AllZip HasKind (map (λ ss. column_kind ss p) table) alpha
kinds_listed [] p [] h = tt
kinds_listed [] p (x ∷ alpha) h = absurd h
kinds_listed (ss ∷ table) p [] h = absurd h
kinds_listed (ss ∷ table) p (x ∷ alpha) h = (h.0, kinds_listed table p alpha h.1)

of_listed : (table : List (List Sign)) (p : List Sign) (alpha : List ℤ) → AllZip HasKind (map (λ ss. column_kind ss p) table) alpha → AreOfColumns table p alpha
of_listed [] p [] h = tt
of_listed [] p (x ∷ alpha) h = absurd h
of_listed (ss ∷ table) p [] h = absurd h
of_listed (ss ∷ table) p (x ∷ alpha) h = (h.0, of_listed table p alpha h.1)

pub is_table : (net : Net) → IsNetwork net → (table : InfluenceTable) → IsTable (reaction_system net) (table_of net table)
is_table net n Plain = (networks_have_tables net n).plain
is_table net n Strong = (networks_have_tables net n).strong

rows_as_long : (net : Net) → IsNetwork net → (table : InfluenceTable) (z : List ℤ) → AllByRecursion (λ ss. length ss ≡ length (image (reaction_system net) z)) (table_of net table)
rows_as_long net n table z = subst (λ (k : ℕ). AllByRecursion (λ (ss : List Sign). length ss ≡ k) (table_of net table)) (rows_count net ∙ sym (image_long net z)) (is_table net n table).species

pub shown : (net : Net) → IsNetwork net → (table : InfluenceTable) (alpha weights : List ℤ) → length alpha ≡ length net.reactions → length weights ≡ length net.reactions
    → all_zero (map sign (image (reaction_system net) alpha)) ≡ true → all_zero (map sign (image (reaction_system net) weights)) ≡ false → AreOfColumns (table_of net table) (map sign (image (reaction_system net) weights)) alpha
    → IsDiscordant (reaction_system net) (table_of net table) alpha weights
shown net n table alpha weights la lw z s h = record {
  long_alpha = la;
  long_weights = lw;
  balanced = zeros_signs (image (reaction_system net) alpha) z;
  some = elim (some_or_zeros (image (reaction_system net) weights)) as (λ _. HasPositive (image (reaction_system net) weights) ⊎ HasNegative (image (reaction_system net) weights)) [
    | inl z ↦ absurd (false≢true (sym s ∙ z))
    | inr h ↦ h
  ];
  goes = columns_go (table_of net table) alpha (image (reaction_system net) weights) (rows_as_long net n table weights) (kinds_listed (table_of net table) (map sign (image (reaction_system net) weights)) alpha h);
}

pub balanced_zero : (net : Net) (table : InfluenceTable) (alpha weights : List ℤ) → IsDiscordant (reaction_system net) (table_of net table) alpha weights → all_zero (map sign (image (reaction_system net) alpha)) ≡ true
balanced_zero net table alpha weights d = noughts_zero (image (reaction_system net) alpha) d.balanced

pub some_change : (net : Net) (table : InfluenceTable) (alpha weights : List ℤ) → IsDiscordant (reaction_system net) (table_of net table) alpha weights → all_zero (map sign (image (reaction_system net) weights)) ≡ false
some_change net table alpha weights d = some_not_zero (image (reaction_system net) weights) d.some

pub all_of_kinds : (net : Net) → IsNetwork net → (table : InfluenceTable) (alpha weights : List ℤ) → IsDiscordant (reaction_system net) (table_of net table) alpha weights → AreOfColumns (table_of net table) (map sign (image (reaction_system net) weights)) alpha
all_of_kinds net n table alpha weights d =
    let sums = image (reaction_system net) weights in
    of_listed (table_of net table) (map sign sums) alpha (columns_have (table_of net table) alpha sums (rows_as_long net n table weights) d.goes)
