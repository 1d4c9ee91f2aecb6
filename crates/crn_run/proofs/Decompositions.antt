-- Verdicts of the part `parts` are short.
use Rattle.crn_run.proofs.Prelude.{◌≡◌, ◌+◌, ◌*◌, ◌<◌, ◌≤◌, ◌==◌, ◌++◌, ℕ, List, [], ◌∷◌, length, map, arith, pos, decimal, filter, AllByRecursion, range_with_len, length-decimal-le_wide, length-append, length-range_with_len, length-map-range_with_len, Net, IsNetwork, filter_few, MAX_DOCUMENT, numbers_text, Parts, Split, label_of, IsFormedParts, greatest, seen_of, parts_verdict, ranks_line}
use Rattle.std.specs.Prelude.{codes}
use Rattle.crn_indep_check.specs.declared.parts.Parts.TheVariants.{Wide}

-- numbers that are no greater than 1,000, each after a space
numbers_most : (f : ℕ → ℕ) (ks : List ℕ) → ((k : ℕ) → f k ≤ 1000) → length (numbers_text (map pos (map f ks))) ≤ 31 * length ks
numbers_most f [] h = omega arith
numbers_most f (k ∷ ks) h = omega (arith, length-decimal-le_wide 30 (f k) (omega arith) (omega (arith, h k)) (omega (arith, h k)), numbers_most f ks h, length-append (32 ∷ decimal (f k)) (numbers_text (map pos (map f ks))))

greatest_most : (most : ℕ) (xs : List ℕ) → AllByRecursion (λ x. (1 ≤ x) × (x ≤ most)) xs → greatest xs ≤ most
greatest_most most [] h = omega arith
greatest_most most (x ∷ xs) h = omega (arith, h.0.1, greatest_most most xs h.1)

-- the line of few small ranks
line_most : (f : ℕ → ℕ) (count : ℕ) → count ≤ 1000 → ((k : ℕ) → f k ≤ 1000) → length (ranks_line (map f (range_with_len 1 count))) < MAX_DOCUMENT
line_most f count few h =
    let ks = range_with_len 1 count in
    let ns = map f ks in
    let head = codes "parts: " ++ decimal (length ns) in
    let many : length ns ≡ count = length-map-range_with_len f 1 count in
    omega (
      arith,
      many,
      length-range_with_len 1 count,
      few,
      length-decimal-le_wide 30 (length ns) (omega arith) (omega (arith, many, few)) (omega (arith, many, few)),
      numbers_most f ks h,
      length-append (codes "parts: ") (decimal (length ns)),
      length-append head (codes ", ranks"),
      length-append (head ++ codes ", ranks") (numbers_text (map pos ns)),
      length-append (head ++ codes ", ranks" ++ numbers_text (map pos ns)) (codes "\n"),
    )

pub decomposition_short : (net : Net) (answer : Parts) → IsNetwork net → IsFormedParts net answer → length (parts_verdict (seen_of answer)) < MAX_DOCUMENT
decomposition_short net (Wide index basis) n formed = omega arith
decomposition_short net (Split rank label up depth) n formed =
    let limits = n.partial in
    let species = limits.species_limit in
    let reactions = limits.reactions_limit in
    let labels = formed.labels_are in
    let proof = formed.proof_is in
    let within = formed.rank_is in
    let long = proof.long in
    line_most (λ k. length (filter (λ r. label_of label.list r == k) rank.base.list)) (greatest label.list)
    (omega (arith, reactions, greatest_most (length net.reactions) label.list labels.each))
    (λ k. omega (arith, long, within.1, species, filter_few (λ r. label_of label.list r == k) rank.base.list))
