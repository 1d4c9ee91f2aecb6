-- The lines of records, as they are written: words, then numbers.
use Rattle.crn_ctext.proofs.Prelude.{◌≡◌, ℕ, zero, suc, slice_get, add-one, ints, negsuc, unsigned_abs, ◌≤ℤ◌, ◌+◌, ◌<◌, ◌≤◌, List, [], ◌∷◌, ◌++◌, length, map, take, drop, get_or, refl, sym, ap, ◌∙◌, append_assoc, arith, ap₂, take-append-drop, decimal_digit, flat_map, join_with_byte, signed_decimal, digits, append-nil, flat_map-append, SinkSeen, WroteAll, WroteAll-none, flat_map_step, flat_map_whole, Net, canonical, Question, Wide, Verdict, Unknown, RankProof, Record, record_text, number_text, numbers_text, line, head_of, head_with, small_record, rank_records, side_records, head_word, record_lines, one_word, opening, table_records, part_head, words_text, question_at, head_words, head_numbers, pair_at}
use Rattle.std.proofs.Common.{Some, ℤ, pos, codes, decimal}

pieces : (a v n b d t : List ℕ) → (((a ++ v) ++ n) ++ (((b ++ d) ++ n) ++ [])) ++ t ≡ ((((a ++ v) ++ (n ++ b)) ++ d) ++ n) ++ t
pieces a v n b d t = simp (append_assoc, append-nil)

-- the first line and the second, and then the network's
pub opening_parts : (version : ℕ) (net : Net) (v d : List ℕ) → v ≡ decimal version → d ≡ decimal (length net.reactions)
    → opening version net ≡ ((((codes "crn certificate " ++ v) ++ codes "\nnetwork ") ++ d) ++ codes "\n") ++ canonical net
opening_parts version net v d e f = rw (e, f) (pieces (codes "crn certificate ") (decimal version) (codes "\n") (codes "network ") (decimal (length net.reactions)) (canonical net))

-- the opening of a part's document, in pieces
pub part_parts : (name : List ℕ) (net : Net) (d : List ℕ) → d ≡ decimal (length net.reactions)
    → part_head name net ≡ ((((codes "crn part " ++ name) ++ codes " 1\nnetwork ") ++ d) ++ codes "\n") ++ canonical net
part_parts name net d f =
    let title : (codes "crn part " ++ (name ++ codes " 1")) ++ codes "\nnetwork " ≡ (codes "crn part " ++ name) ++ codes " 1\nnetwork " =
    append_assoc (codes "crn part ") (name ++ codes " 1") (codes "\nnetwork ") ∙ ap (λ (t : List ℕ). codes "crn part " ++ t) (append_assoc name (codes " 1") (codes "\nnetwork ")) ∙ sym (append_assoc (codes "crn part ") name (codes " 1\nnetwork ")) in
    pieces (codes "crn part ") (name ++ codes " 1") (codes "\n") (codes "network ") (decimal (length net.reactions)) (canonical net)
    ∙ ap₂ (λ (t e : List ℕ). ((t ++ e) ++ codes "\n") ++ canonical net) title (sym f)

-- texts after a first one, each after a space
after_first : (w : List ℕ) (texts : List (List ℕ)) → join_with_byte 32 (w ∷ texts) ≡ w ++ words_text texts
after_first w [] = sym (append-nil w)
after_first w (t ∷ texts) = ap (λ (r : List ℕ). w ++ 32 ∷ r) (after_first t texts)

numbers_are_texts : (zs : List ℤ) → words_text (map signed_decimal zs) ≡ numbers_text zs
numbers_are_texts [] = refl
numbers_are_texts (z ∷ zs) = ap (λ (r : List ℕ). (32 ∷ signed_decimal z) ++ r) (numbers_are_texts zs)

-- the text of a record
pub text_of_record : (w : List ℕ) (ws : List (List ℕ)) (zs : List ℤ) → record_text (record { words = w ∷ ws; numbers = zs }) ≡ (w ++ words_text ws) ++ numbers_text zs
text_of_record w ws zs =
    after_first w (ws ++ map signed_decimal zs)
    ∙ ap (λ (r : List ℕ). w ++ r) (flat_map-append (λ word. 32 ∷ word) ws (map signed_decimal zs) ∙ ap (λ (r : List ℕ). words_text ws ++ r) (numbers_are_texts zs))
    ∙ sym (append_assoc w (words_text ws) (numbers_text zs))

-- the line of a record
pub line_of_record : (w : List ℕ) (ws : List (List ℕ)) (zs : List ℤ) → record_lines (record { words = w ∷ ws; numbers = zs } ∷ []) ≡ line (w ++ words_text ws) zs
line_of_record w ws zs = append-nil _ ∙ ap (λ (r : List ℕ). r ++ codes "\n") (text_of_record w ws zs)

-- the lines of records one after another
pub lines_append : (xs ys : List Record) → record_lines (xs ++ ys) ≡ record_lines xs ++ record_lines ys
lines_append [] ys = refl
lines_append (x ∷ xs) ys = ap (λ (r : List ℕ). (record_text x ++ 10 ∷ []) ++ r) (lines_append xs ys) ∙ sym (append_assoc (record_text x ++ 10 ∷ []) (record_lines xs) (record_lines ys))

-- the line of a record, and then those of others
pub line_then : (w : List ℕ) (ws : List (List ℕ)) (zs : List ℤ) (more : List Record) → record_lines (record { words = w ∷ ws; numbers = zs } ∷ more) ≡ line (w ++ words_text ws) zs ++ record_lines more
line_then w ws zs more = ap (λ (r : List ℕ). (r ++ codes "\n") ++ record_lines more) (text_of_record w ws zs)

-- ---- natural numbers

naturals_text : (ns : List ℕ) → numbers_text (map pos ns) ≡ flat_map (λ n. number_text (pos n)) ns
naturals_text [] = refl
naturals_text (n ∷ ns) = ap (λ (r : List ℕ). number_text (pos n) ++ r) (naturals_text ns)

-- one natural number more
pub naturals_step : (ns : List ℕ) (i : ℕ) → i < length ns → numbers_text (map pos (take (i + 1) ns)) ≡ numbers_text (map pos (take i ns)) ++ number_text (pos (get_or ns i 0))
naturals_step ns i lt = rw (naturals_text (take (i + 1) ns), naturals_text (take i ns)) (flat_map_step (λ n. number_text (pos n)) ns i 0 lt)

-- the numbers before one, and that one
pub numbers_step : (zs : List ℤ) (i : ℕ) → i < length zs → numbers_text (take (i + 1) zs) ≡ numbers_text (take i zs) ++ number_text (get_or zs i (pos 0))
numbers_step zs i lt = flat_map_step number_text zs i (pos 0) lt

-- the first numbers, and those after them
pub numbers_parts : (n : ℕ) (zs front back : List ℤ) → front ≡ take n zs → back ≡ drop n zs → numbers_text zs ≡ numbers_text front ++ numbers_text back
numbers_parts n zs front back e f =
    ap numbers_text (sym (take-append-drop n zs)) ∙ flat_map-append number_text (take n zs) (drop n zs)
    ∙ ap₂ (λ (a b : List ℤ). numbers_text a ++ numbers_text b) (sym e) (sym f)

-- a natural number, and minus one
pub natural_text : (z : ℤ) → pos 0 ≤ℤ z → number_text z ≡ 32 ∷ decimal (unsigned_abs z)
natural_text (pos n) le = refl
natural_text (negsuc n) le = absurd (omega (arith, ints, le))

pub minus_one_text : number_text (negsuc 0) ≡ 32 ∷ 45 ∷ 49 ∷ []
minus_one_text = ap (λ (t : List ℕ). 32 ∷ 45 ∷ t) (decimal_digit 1 (omega arith))

-- a zero, and four of them
zero_text : number_text (pos 0) ≡ 32 ∷ 48 ∷ []
zero_text = ap (λ (t : List ℕ). 32 ∷ t) (decimal_digit 0 (omega arith))

pub zeros_text : numbers_text (pos 0 ∷ pos 0 ∷ pos 0 ∷ pos 0 ∷ []) ≡ 32 ∷ 48 ∷ 32 ∷ 48 ∷ 32 ∷ 48 ∷ 32 ∷ 48 ∷ []
zeros_text = ap (λ (t : List ℕ). t ++ (t ++ (t ++ (t ++ [])))) zero_text

pub are_four : (zs : List ℤ) → length zs ≡ 4 → get_or zs 0 (pos 0) ≡ pos 0 → get_or zs 1 (pos 0) ≡ pos 0 → get_or zs 2 (pos 0) ≡ pos 0 → get_or zs 3 (pos 0) ≡ pos 0 → zs ≡ pos 0 ∷ pos 0 ∷ pos 0 ∷ pos 0 ∷ []
are_four (a ∷ b ∷ d ∷ x ∷ []) n e f g h =
    let Add : ℤ → List ℤ → List ℤ = λ y l. y ∷ l in
    ap₂ Add e (ap₂ Add f (ap₂ Add g (ap (λ (y : ℤ). y ∷ []) h)))
are_four zs n e f g h = absurd (omega (arith, n))

-- the natural numbers before one, that one, and those after it
pub naturals_whole : (ns : List ℕ) (i : ℕ) → i < length ns → (rest : List ℕ) × (numbers_text (map pos ns) ≡ (numbers_text (map pos (take i ns)) ++ number_text (pos (get_or ns i 0))) ++ rest)
naturals_whole ns i lt = (flat_map (λ n. number_text (pos n)) (drop (suc i) ns), rw (naturals_text ns, naturals_text (take i ns)) (flat_map_whole (λ n. number_text (pos n)) ns i 0 lt))

-- the line of a record of one word, alone and before others
pub line_of_word : (w : List ℕ) (zs : List ℤ) → record_lines (one_word w zs ∷ []) ≡ line w zs
line_of_word w zs = line_of_record w [] zs ∙ ap (λ (t : List ℕ). line t zs) (append-nil w)

pub word_then : (w : List ℕ) (zs : List ℤ) (more : List Record) → record_lines (one_word w zs ∷ more) ≡ line w zs ++ record_lines more
word_then w zs more = line_then w [] zs more ∙ ap (λ (t : List ℕ). line t zs ++ record_lines more) (append-nil w)

-- the lines of records of one word
pub lines_of_rows : (w : List ℕ) (rows : List (List ℤ)) → record_lines (map (one_word w) rows) ≡ flat_map (line w) rows
lines_of_rows w [] = refl
lines_of_rows w (row ∷ rows) = word_then w row (map (one_word w) rows) ∙ ap (λ (t : List ℕ). line w row ++ t) (lines_of_rows w rows)

regroup3 : (a b c : List ℕ) → a ++ (b ++ c) ≡ (a ++ b) ++ c
regroup3 a b c = sym (append_assoc a b c)

regroup4 : (a b c d : List ℕ) → a ++ ((b ++ c) ++ d) ≡ ((a ++ b) ++ c) ++ d
regroup4 a b c d = simp append_assoc

regroup5 : (a b c d e : List ℕ) → a ++ (((b ++ c) ++ d) ++ e) ≡ (((a ++ b) ++ c) ++ d) ++ e
regroup5 a b c d e = simp append_assoc

-- the lines of several records of one word each
pub lines_two : (a b : List ℕ) (x y : List ℤ) → record_lines (one_word a x ∷ one_word b y ∷ []) ≡ line a x ++ line b y
lines_two a b x y = word_then a x (one_word b y ∷ []) ∙ ap (λ (t : List ℕ). line a x ++ t) (line_of_word b y)

pub lines_three : (a b c : List ℕ) (x y z : List ℤ) → record_lines (one_word a x ∷ one_word b y ∷ one_word c z ∷ []) ≡ (line a x ++ line b y) ++ line c z
lines_three a b c x y z =
    word_then a x (one_word b y ∷ one_word c z ∷ []) ∙ ap (λ (t : List ℕ). line a x ++ t) (lines_two b c y z) ∙ regroup3 (line a x) (line b y) (line c z)

pub lines_four : (a b c d : List ℕ) (x y z v : List ℤ) → record_lines (one_word a x ∷ one_word b y ∷ one_word c z ∷ one_word d v ∷ []) ≡ ((line a x ++ line b y) ++ line c z) ++ line d v
lines_four a b c d x y z v =
    word_then a x (one_word b y ∷ one_word c z ∷ one_word d v ∷ []) ∙ ap (λ (t : List ℕ). line a x ++ t) (lines_three b c d y z v) ∙ regroup4 (line a x) (line b y) (line c z) (line d v)

pub lines_five : (a b c d e : List ℕ) (x y z v u : List ℤ) → record_lines (one_word a x ∷ one_word b y ∷ one_word c z ∷ one_word d v ∷ one_word e u ∷ []) ≡ (((line a x ++ line b y) ++ line c z) ++ line d v) ++ line e u
lines_five a b c d e x y z v u =
    word_then a x (one_word b y ∷ one_word c z ∷ one_word d v ∷ one_word e u ∷ []) ∙ ap (λ (t : List ℕ). line a x ++ t) (lines_four b c d e y z v u) ∙ regroup5 (line a x) (line b y) (line c z) (line d v) (line e u)

-- ---- ranks

-- the lines of the records of a rank
pub rank_lines : (p : RankProof) → record_lines (rank_records p) ≡ (line (codes "base") (map pos p.base.list) ++ flat_map (line (codes "dual")) p.duals) ++ flat_map (line (codes "comb")) p.combs
rank_lines p =
    lines_append (small_record (codes "base") p.base.list ∷ map (one_word (codes "dual")) p.duals) (map (one_word (codes "comb")) p.combs)
    ∙ ap (λ (t : List ℕ). t ++ record_lines (map (one_word (codes "comb")) p.combs)) (word_then (codes "base") (map pos p.base.list) (map (one_word (codes "dual")) p.duals) ∙ ap (λ (t : List ℕ). line (codes "base") (map pos p.base.list) ++ t) (lines_of_rows (codes "dual") p.duals))
    ∙ ap (λ (t : List ℕ). (line (codes "base") (map pos p.base.list) ++ flat_map (line (codes "dual")) p.duals) ++ t) (lines_of_rows (codes "comb") p.combs)

-- the lines of the records of several things
pub lines_of_all : {X : Type 0} (f : X → List Record) (xs : List X) → record_lines (flat_map f xs) ≡ flat_map (λ x. record_lines (f x)) xs
lines_of_all f [] = refl
lines_of_all f (x ∷ xs) = lines_append (f x) (flat_map f xs) ∙ ap (λ (t : List ℕ). record_lines (f x) ++ t) (lines_of_all f xs)

-- the element at a place
pub element_at : {X : Type 0} (xs : List X) (i : ℕ) (x : X) → slice_get xs i ≡ Some x → (i < length xs) × (get_or xs i x ≡ x)
element_at [] i x e = absurd cc
element_at (y ∷ xs) zero x e = (omega arith, cc)
element_at (y ∷ xs) (suc i) x e = let h = element_at xs i x e in (omega (arith, h.0), h.1)

-- ---- sides

side_parts : (a b c d : List ℕ) → (a ++ (b ++ c)) ++ d ≡ ((a ++ (b ++ [])) ++ c) ++ d
side_parts a b c d = simp (append_assoc, append-nil)

one_side : (pairs : List ℕ) (marks : List ℤ) → record_lines (side_records (take 1 pairs) (marks ∷ [])) ≡ ((codes "side" ++ numbers_text (map pos (take 1 pairs))) ++ numbers_text marks) ++ codes "\n"
one_side [] marks = line_of_word (codes "side") marks
one_side (r ∷ pairs) marks = line_of_word (codes "side") (pos r ∷ marks) ∙ side_parts (codes "side") (number_text (pos r)) (numbers_text marks) (codes "\n")

-- the marks of one side, after the least reaction of its pair
pub side_line : (pairs : List ℕ) (i : ℕ) (marks : List ℤ) → record_lines (side_records (pair_at pairs i) (marks ∷ [])) ≡ ((codes "side" ++ numbers_text (map pos (pair_at pairs i))) ++ numbers_text marks) ++ codes "\n"
side_line pairs i marks = one_side (drop i pairs) marks

no_pair : (i : ℕ) → pair_at [] i ≡ []
no_pair zero = refl
no_pair (suc i) = refl

lone_next : (rows : List (List ℤ)) (i : ℕ) → i < length rows → side_records [] (take (suc i) rows) ≡ side_records [] (take i rows) ++ side_records [] (get_or rows i [] ∷ [])
lone_next [] i lt = absurd (omega arith)
lone_next (row ∷ rows) zero lt = refl
lone_next (row ∷ rows) (suc i) lt = ap (λ (t : List Record). one_word (codes "side") row ∷ t) (lone_next rows i (omega arith))

sides_next : (pairs : List ℕ) (rows : List (List ℤ)) (i : ℕ) → i < length rows → side_records pairs (take (suc i) rows) ≡ side_records pairs (take i rows) ++ side_records (pair_at pairs i) (get_or rows i [] ∷ [])
sides_next pairs [] i lt = absurd (omega arith)
sides_next [] (row ∷ rows) i lt = rw (no_pair i) (lone_next (row ∷ rows) i lt)
sides_next (r ∷ pairs) (row ∷ rows) zero lt = refl
sides_next (r ∷ pairs) (row ∷ rows) (suc i) lt = ap (λ (t : List Record). one_word (codes "side") (pos r ∷ row) ∷ t) (sides_next pairs rows i (omega arith))

-- one side more
pub sides_step : (pairs : List ℕ) (rows : List (List ℤ)) (i : ℕ) → i < length rows → side_records pairs (take (i + 1) rows) ≡ side_records pairs (take i rows) ++ side_records (pair_at pairs i) (get_or rows i [] ∷ [])
sides_step pairs rows i lt = rw add-one (sides_next pairs rows i lt)

lone_whole : (rows : List (List ℤ)) (i : ℕ) → i < length rows → (rest : List Record) × (side_records [] rows ≡ (side_records [] (take i rows) ++ side_records [] (get_or rows i [] ∷ [])) ++ rest)
lone_whole [] i lt = absurd (omega arith)
lone_whole (row ∷ rows) zero lt = (side_records [] rows, refl)
lone_whole (row ∷ rows) (suc i) lt = let h = lone_whole rows i (omega arith) in (h.0, ap (λ (t : List Record). one_word (codes "side") row ∷ t) h.1)

-- the sides before one, that one, and those after it
pub sides_whole : (pairs : List ℕ) (rows : List (List ℤ)) (i : ℕ) → i < length rows → (rest : List Record) × (side_records pairs rows ≡ (side_records pairs (take i rows) ++ side_records (pair_at pairs i) (get_or rows i [] ∷ [])) ++ rest)
sides_whole pairs [] i lt = absurd (omega arith)
sides_whole [] (row ∷ rows) i lt = rw (no_pair i) (lone_whole (row ∷ rows) i lt)
sides_whole (r ∷ pairs) (row ∷ rows) zero lt = (side_records pairs rows, refl)
sides_whole (r ∷ pairs) (row ∷ rows) (suc i) lt = let h = sides_whole pairs rows i (omega arith) in (h.0, ap (λ (t : List Record). one_word (codes "side") (pos r ∷ row) ∷ t) h.1)

-- ---- heads

-- the head of a verdict, whatever the question
pub head_is : (q : Question) (v : Verdict) → head_of q v ≡ head_with q (head_words v) (head_numbers v)
head_is q (Unknown (Wide system class index basis)) = refl
head_is q v = refl

-- the word of a question
question_word : (k : ℕ) → k < 15 → head_word (question_at (suc k)) ≡ codes "q" ++ decimal (suc k)
unfolding digits
question_word (suc (suc (suc (suc (suc (suc (suc (suc (suc (suc (suc (suc (suc (suc (suc k))))))))))))))) lt = absurd (omega arith)
question_word k lt = refl

pub word_of_question : (k : ℕ) → 1 ≤ k → k ≤ 15 → head_word (question_at k) ≡ codes "q" ++ decimal k
word_of_question zero some few = absurd (omega arith)
word_of_question (suc k) some few = question_word k (omega arith)

-- the line of a head
pub head_line : (k : ℕ) (v : Verdict) (d t : List ℕ) → 1 ≤ k → k ≤ 15 → d ≡ decimal k → t ≡ words_text (head_words v)
    → record_lines (head_of (question_at k) v ∷ []) ≡ (((codes "q" ++ d) ++ t) ++ numbers_text (head_numbers v)) ++ codes "\n"
head_line k v d t some few e f =
    ap (λ (r : Record). record_lines (r ∷ [])) (head_is (question_at k) v)
    ∙ line_of_record (head_word (question_at k)) (head_words v) (head_numbers v)
    ∙ ap (λ (w : List ℕ). line (w ++ words_text (head_words v)) (head_numbers v)) (word_of_question k some few)
    ∙ ap (λ (w : List ℕ). line ((codes "q" ++ w) ++ words_text (head_words v)) (head_numbers v)) (sym e)
    ∙ ap (λ (w : List ℕ). line ((codes "q" ++ d) ++ w) (head_numbers v)) (sym f)

-- the numbers of a wide gap
pub wide_numbers : (a b i : ℕ) (basis : List ℕ) → numbers_text (map pos (a ∷ b ∷ i ∷ basis)) ≡ numbers_text (map pos (a ∷ b ∷ [])) ++ numbers_text (map pos (i ∷ basis))
wide_numbers a b i basis = flat_map-append number_text (map pos (a ∷ b ∷ [])) (map pos (i ∷ basis))

-- ---- tables

-- how many lists are shared, and each
pub table_lines : (table : List (List ℤ)) (d : List ℕ) → d ≡ decimal (length table) → record_lines (table_records table) ≡ ((codes "vectors " ++ d) ++ codes "\n") ++ flat_map (line (codes "vector")) table
table_lines table d e =
    word_then (codes "vectors") (pos (length table) ∷ []) (map (one_word (codes "vector")) table)
    ∙ ap (λ (t : List ℕ). line (codes "vectors") (pos (length table) ∷ []) ++ t) (lines_of_rows (codes "vector") table)
    ∙ ap (λ (t : List ℕ). ((codes "vectors " ++ t) ++ codes "\n") ++ flat_map (line (codes "vector")) table) (append-nil (decimal (length table)) ∙ sym e)

-- ---- more

pub lines_append3 : (xs ys zs : List Record) → record_lines ((xs ++ ys) ++ zs) ≡ (record_lines xs ++ record_lines ys) ++ record_lines zs
lines_append3 xs ys zs = lines_append (xs ++ ys) zs ∙ ap (λ (t : List ℕ). t ++ record_lines zs) (lines_append xs ys)

-- no side is written yet
pub sides_of_none : (pairs : List ℕ) (seen : SinkSeen) → WroteAll (record_lines (side_records pairs [])) seen seen
sides_of_none [] seen = WroteAll-none seen
sides_of_none (r ∷ pairs) seen = WroteAll-none seen

-- the line of one number
pub one_number : (text : List ℕ) (z : ℤ) → line text (z ∷ []) ≡ (text ++ number_text z) ++ codes "\n"
one_number text z = ap (λ (t : List ℕ). (text ++ t) ++ codes "\n") (append-nil (number_text z))
