-- The rows of each system of a network have an entry for each column.
use Rattle.crn_laws.proofs.Prelude.{◌≡◌, ℕ, ◌+◌, ◌<◌, ◌==◌, inl, inr, List, [], ◌∷◌, ◌++◌, length, get_or, map, refl, ◌∙◌, arith, length-append, ℤ, pos, negsuc, range_with_len, IsIn, Net, minus, reaction_vector, AreOfLength, column, label_marks, vectors, class_reactions, by_species, Shape, IsShape, complex_at, complex_row, pair_row, shelf_matrix, all_at, all_in, filter_from, length-column, length-label_marks, length-minus, reaction_long, vectors_count, HasFullRows, NetworksHaveFullRows}

full : (n : ℕ) (rows : List (List ℤ)) → ((row : List ℤ) → IsIn row rows → length row ≡ n) → AreOfLength n rows
full n [] h = tt
full n (row ∷ rows) h = (h row (inl refl), full n rows (λ r i. h r (inr i)))

full_map : {A : Type 0} (n : ℕ) (f : A → List ℤ) (xs : List A) → ((x : A) → IsIn x xs → length (f x) ≡ n) → AreOfLength n (map f xs)
full_map n f [] h = tt
full_map n f (x ∷ xs) h = (h x (inl refl), full_map n f xs (λ y i. h y (inr i)))

full_append : (n : ℕ) (rows more : List (List ℤ)) → AreOfLength n rows → AreOfLength n more → AreOfLength n (rows ++ more)
full_append n [] more h g = g
full_append n (row ∷ rows) more h g = (h.0, full_append n rows more h.1 g)

full_signals : (net : Net) (s : Shape) → IsShape net s → HasFullRows (shelf_matrix s)
full_signals net s h =
    let n = s.species in
    let wide : (c : ℕ) → c < length s.complexes → length (complex_at s c) ≡ n = λ c lt. all_at (λ y. length y ≡ n) s.complexes c [] h.widths lt in
    full_append (n + 1) (map complex_row s.complexes) (map (pair_row s) s.pairs)
    (full_map (n + 1) complex_row s.complexes (λ y i. length-append y (negsuc 0 ∷ []) ∙ (let e : length y ≡ n = all_in (λ y. length y ≡ n) s.complexes y h.widths i in omega (arith, e))))
    (full_map (n + 1) (pair_row s) s.pairs (λ p i.
    let b = all_in (λ pair. (pair.top < s.count) × (pair.low < length s.complexes) × (pair.high < length s.complexes)) s.pairs p h.pairs_below i in
    let long = length-minus n (complex_at s p.high) (complex_at s p.low) (wide p.high b.2) (wide p.low b.1) in
    omega (arith, long, length-append (minus (complex_at s p.high) (complex_at s p.low)) (pos 0 ∷ []))))

pub networks_have_full_rows : NetworksHaveFullRows
networks_have_full_rows net n =
    let c = length net.complexes in
    let vector = reaction_vector net in
    record {
      species = full_map (length net.names) vector net.reactions (reaction_long net n);
      reactions = full_map (length net.reactions) (column (vectors net)) (range_with_len 0 (length net.names)) (λ s i. length-column (vectors net) s ∙ vectors_count net);
      class = λ labels k. full_map (length net.names) vector (class_reactions net labels k) (λ r i. reaction_long net n r (filter_from (λ r. get_or labels r.0 0 == k) net.reactions r i).0);
      confluence = λ labels count l.
          full_append c (by_species net net.complexes) (map (label_marks labels) (range_with_len 1 count))
          (full_map c (column net.complexes) (range_with_len 0 (length net.names)) (λ s i. length-column net.complexes s))
          (full_map c (label_marks labels) (range_with_len 1 count) (λ k i. length-label_marks labels k ∙ l.long));
      signals = λ g s h. full_signals net s h.shape;
    }
