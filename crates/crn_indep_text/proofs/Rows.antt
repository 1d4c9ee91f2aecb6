-- Rows of free numbers, one line after another: those that are written are rows, and rows are written.
use Rattle.crn_indep_text.proofs.Prelude.{◌≡◌, ◌+◌, ◌++◌, ℕ, zero, suc, true, List, [], ◌∷◌, length, map, refl, sym, ap, subst, ◌∙◌, inl, arith, ℤ, append-nil, IsIn, AreFreeRows, Form, Says, record_text, free_form, Give, ◌>>=◌, IsWrittenBy, one_word, asks_part, AllPlain, HasNoEnd, IsBounded, are_words, fitting_is_plain, free_fits, free_row, give_back, give_no_end, no_end_then, part_no_end, written_cuts, written_then, first_back, Say, only, one_said, none_said, line_on, given, words, asks_rows}

pub rows_no_end : (n : ℕ) (forms : List Form) (count : ℕ) → HasNoEnd (asks_rows n forms count)
unfolding asks_rows
rows_no_end n forms zero = give_no_end []
rows_no_end n forms (suc k) = no_end_then (asks_part words n forms) (λ r. asks_rows (n + 1) forms k >>= (λ rows. Give (r.numbers ∷ rows))) (part_no_end words n forms)
    (λ r. no_end_then (asks_rows (n + 1) forms k) (λ rows. Give (r.numbers ∷ rows)) (rows_no_end (n + 1) forms k) (λ rows. give_no_end (r.numbers ∷ rows)))

pub rows_back : (word : List ℕ) (width n count : ℕ) (ls : List (List ℕ)) (rows : List (List ℤ)) → IsWrittenBy (asks_rows n (free_form word width ∷ []) count) ls rows → Say ls (map (one_word word) rows) × AreFreeRows count width rows
unfolding asks_rows
rows_back word width n zero ls rows w =
    let g = give_back [] rows ls w in
    (subst (λ (t : List (List ℤ)). Say ls (map (one_word word) t)) g.0 (none_said ls g.1), subst (AreFreeRows 0 width) g.0 (record { long = refl; each = tt }))
rows_back word width n (suc k) ls rows w =
    let forms = free_form word width ∷ [] in
    let b = first_back words n forms (λ r. asks_rows (n + 1) forms k >>= (λ rs. Give (r.numbers ∷ rs))) ls rows w in
    let f = free_row word width b.first (only (free_form word width) b.first b.fits) in
    let a = written_cuts (asks_rows (n + 1) forms k) (λ rs. Give (b.first.numbers ∷ rs)) b.more rows b.rest in
    let g = give_back (b.first.numbers ∷ a.0) rows a.2 a.5 in
    let m = rows_back word width (n + 1) k a.1 a.0 a.4 in
    let same : b.more ≡ a.1 = a.3 ∙ ap (λ (t : List (List ℕ)). a.1 ++ t) g.1 ∙ append-nil a.1 in
    let each = m.1.each in
    let long = m.1.long in (
      subst (λ (t : List (List ℤ)). Say ls (map (one_word word) t)) g.0
          (one_said ls b.more b.line (one_word word b.first.numbers) (map (one_word word) a.0) b.are (subst (Says b.line) f.0 b.says) (subst (λ (t : List (List ℕ)). Say t (map (one_word word) a.0)) (sym same) m.0)),
      subst (AreFreeRows (suc k) width) g.0 (record { long = ap suc long; each = (f.1, each) }),
    )

pub rows_on : (word : List ℕ) (width n count : ℕ) (rows : List (List ℤ)) → are_words (word ∷ []) ≡ true → IsIn word words → IsBounded (free_form word width) → AreFreeRows count width rows
    → IsWrittenBy (asks_rows n (free_form word width ∷ []) count) (map record_text (map (one_word word) rows)) rows
unfolding asks_rows
rows_on word width n zero [] w known b f = given []
rows_on word width n zero (row ∷ rows) w known b f = absurd (let e = f.long in omega (arith, e))
rows_on word width n (suc k) [] w known b f = absurd (let e = f.long in omega (arith, e))
rows_on word width n (suc k) (row ∷ rows) w known b f =
    let forms = free_form word width ∷ [] in
    let each = f.each in
    let long = f.long in
    let more = rows_on word width (n + 1) k rows w known b (record { long = omega (arith, long); each = each.1 }) in
    let ms = map record_text (map (one_word word) rows) in
    let rest : IsWrittenBy (asks_rows (n + 1) forms k >>= (λ rs. Give (row ∷ rs))) ms (row ∷ rows) = subst (λ (t : List (List ℕ)). IsWrittenBy (asks_rows (n + 1) forms k >>= (λ rs. Give (row ∷ rs))) t (row ∷ rows)) (append-nil ms)
    (written_then (asks_rows (n + 1) forms k) (λ rs. Give (row ∷ rs)) ms [] rows (row ∷ rows) (rows_no_end (n + 1) forms k) more (given (row ∷ rows))) in
    line_on words n forms (free_form word width) (one_word word row) (λ r. asks_rows (n + 1) forms k >>= (λ rs. Give (r.numbers ∷ rs))) ms (row ∷ rows) (inl refl) w known b (free_fits word width row each.0) rest

pub rows_plain : (word : List ℕ) (width count : ℕ) (rows : List (List ℤ)) → IsBounded (free_form word width) → AreFreeRows count width rows → AllPlain (map (one_word word) rows)
rows_plain word width count [] b f = tt
rows_plain word width count (row ∷ rows) b f =
    let each = f.each in
    (fitting_is_plain (free_form word width) (one_word word row) b (free_fits word width row each.0), rows_plain word width (length rows) rows b (record { long = refl; each = each.1 }))
