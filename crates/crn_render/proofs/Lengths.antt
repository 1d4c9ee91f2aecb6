-- Lines of short verdicts are short, and so is a report of them.
use Rattle.crn_render.proofs.Prelude.{◌≡◌, ◌+◌, ◌-◌, ◌*◌, ◌^◌, ◌<◌, ◌≤◌, ◌==◌, ◌++◌, ℕ, zero, suc, inl, inr, List, [], ◌∷◌, length, get_or, ap, arith, ℤ, pos, negsuc, decimal, unsigned_abs, AllByRecursion, flat_map, signed_decimal, cases_Bool, length-decimal-le_wide, length-append, length-map, suc-mul, Net, IsNetwork, IsVector, IsAmount, IsName, joined, side, complex_text, side_held, good_terms, side_length, held_length, Question, Q1, Q2, Q3, Q4, Q5, Q6, Q7, Q8, Q9, Q10, Q11, Q12, Q13, Q14, Q15, Gap, Wide, Budget, Rests, Verdict, Classes, Strong, Rank, Deficiency, Yes, YesWeak, YesVec, YesSignal, No, NoReaction, NoVec, NoNumber, NoTerminal, NoClass, NoSum, NoDependence, NoCycle, NoPair, NotRegular, OnlyZero, Plane, NotApplicable, Unknown, title, numbers_text, gap_words, yes_words, weak_words, no_words, verdict_words, question_line, vector_text, complex_texts, walk_text, arrow_text, reaction_text, titled_line, of_label, members_text, class_line, terminal_text, strong_line, lines_from, vector_title, shelf, shelves_text, class_text, system_line, index_line, gap_details, sigma, signal_details, details, MAX_DOCUMENT, question_lines, all_lines, first_line, species_line, complexes_line, reactions_line, head, one_if_open, open_count, open_line, render}
use Rattle.std.proofs.Common.{Bool, true, false, map}
use Rattle.std.specs.Prelude.{codes}
use Rattle.crn_text.proofs.CallerLemmas.{held}

-- ---- short verdicts

-- a number of no more than 30 digits
abbrev pub IsShortNumber : ℤ → Type 0
IsShortNumber z = unsigned_abs z < 10 ^ 30

-- few such numbers
pub record AreShort (zs : List ℤ) : Type 0 where
  pub few : length zs ≤ 400
  pub each : AllByRecursion IsShortNumber zs

-- few counts
pub record AreShortCounts (ns : List ℕ) : Type 0 where
  pub few : length ns ≤ 400
  pub each : AllByRecursion (λ n. n ≤ 1000) ns

-- numbers and lists of the reason of an open verdict are short
abbrev pub IsShortGap : Gap → Type 0
IsShortGap (Wide system class index basis) = (system ≤ 1000) × (class ≤ 1000) × (index ≤ 1000) × AreShortCounts basis.list
IsShortGap (Budget nodes) = nodes ≤ 100000
IsShortGap (Rests question) = question ≤ 1000

-- numbers and lists of a verdict are short
abbrev pub IsShort : Net → Verdict → Type 0
IsShort net (Classes count label) = count ≤ 400
IsShort net (Strong count terminal label exit) = (count ≤ 400) × (terminal ≤ 1000)
IsShort net (Rank rank base) = (rank ≤ 1000) × AreShortCounts base.list
IsShort net (Deficiency total classes) = (total ≤ 1000) × AreShortCounts classes.list
IsShort net Yes = Unit {0}
IsShort net (YesWeak weak) = Unit {0}
IsShort net (YesVec vector) = AreShort vector.list
IsShort net (YesSignal turn shelves mu m weights) = IsShortNumber turn × (length shelves.list ≤ 400) × AreShort mu.list × IsShortNumber m
IsShort net No = Unit {0}
IsShort net (NoReaction reaction) = reaction ≤ 1000
IsShort net (NoVec multipliers) = AreShort multipliers.list
IsShort net (NoNumber number) = number ≤ 1000
IsShort net (NoTerminal class count) = (class ≤ 1000) × (count ≤ 1000)
IsShort net (NoClass class number) = (class ≤ 1000) × (number ≤ 1000)
IsShort net (NoSum total) = total ≤ 1000
IsShort net NoDependence = Unit {0}
IsShort net (NoCycle reaction walk) = (reaction ≤ 1000) × (length walk.list ≤ 400)
IsShort net (NoPair alpha weights) = AreShort (sigma net weights.list) × AreShort alpha.list
IsShort net NotRegular = Unit {0}
IsShort net OnlyZero = Unit {0}
IsShort net (Plane first second one two) = AreShort one.list × AreShort two.list
IsShort net NotApplicable = Unit {0}
IsShort net (Unknown gap) = IsShortGap gap

-- ---- texts of parts

pub three : (a b c : List ℕ) → length (a ++ b ++ c) ≡ length a + length b + length c
three a b c = omega (arith, length-append (a ++ b) c, length-append a b)

pub four : (a b c d : List ℕ) → length (a ++ b ++ c ++ d) ≡ length a + length b + length c + length d
four a b c d = omega (arith, length-append (a ++ b ++ c) d, three a b c)

five : (a b c d e : List ℕ) → length (a ++ b ++ c ++ d ++ e) ≡ length a + length b + length c + length d + length e
five a b c d e = omega (arith, length-append (a ++ b ++ c ++ d) e, four a b c d)

pub six : (a b c d e f : List ℕ) → length (a ++ b ++ c ++ d ++ e ++ f) ≡ length a + length b + length c + length d + length e + length f
six a b c d e f = omega (arith, length-append (a ++ b ++ c ++ d ++ e) f, five a b c d e)

-- ---- texts that are joined

tail_most : (m : ℕ) (sep : List ℕ) (xs : List (List ℕ)) → AllByRecursion (λ x. length x + length sep ≤ m) xs → length (flat_map (λ y. sep ++ y) xs) ≤ length xs * m
tail_most m sep [] h = omega arith
tail_most m sep (x ∷ xs) h =
    let more = tail_most m sep xs h.1 in
    omega (arith, h.0, more, length-append (sep ++ x) (flat_map (λ y. sep ++ y) xs), length-append sep x, suc-mul (length xs) m)

joined_most : (m : ℕ) (sep : List ℕ) (xs : List (List ℕ)) → AllByRecursion (λ x. length x + length sep ≤ m) xs → length (joined sep xs) ≤ length xs * m
joined_most m sep [] h = omega arith
joined_most m sep (x ∷ xs) h =
    let more = tail_most m sep xs h.1 in
    omega (arith, h.0, more, length-append x (flat_map (λ y. sep ++ y) xs), suc-mul (length xs) m)

-- ---- numbers

pub decimal_most : (n : ℕ) → n < 10 ^ 30 → length (decimal n) ≤ 30
decimal_most n lt = length-decimal-le_wide 30 n (omega arith) lt (omega (arith, lt))

signed_most : (z : ℤ) → IsShortNumber z → length (signed_decimal z) ≤ 31
signed_most (pos n) h = let d = decimal_most n h in omega (arith, d)
signed_most (negsuc n) h = let d = decimal_most (suc n) h in omega (arith, d)

signed_all : (zs : List ℤ) → AllByRecursion IsShortNumber zs → AllByRecursion (λ x. length x + length (codes " ") ≤ 32) (map signed_decimal zs)
signed_all [] h = tt
signed_all (z ∷ zs) h = (omega (arith, signed_most z h.0), signed_all zs h.1)

vector_most : (zs : List ℤ) → AreShort zs → length (vector_text zs) ≤ 13000
vector_most zs h =
    let most = joined_most 32 (codes " ") (map signed_decimal zs) (signed_all zs h.each) in
    let few = h.few in
    omega (arith, most, few, length-map zs signed_decimal)

pub count_most : (n : ℕ) → n ≤ 1000 → length (decimal n) ≤ 30
count_most n le = decimal_most n (omega (arith, le))

counts_all : (ns : List ℕ) → AllByRecursion (λ n. n ≤ 1000) ns → AllByRecursion (λ x. length x + length (codes " ") ≤ 32) (map decimal ns)
counts_all [] h = tt
counts_all (n ∷ ns) h = (omega (arith, count_most n h.0), counts_all ns h.1)

numbers_most : (ns : List ℕ) → AreShortCounts ns → length (numbers_text ns) ≤ 13000
numbers_most ns h =
    let most = joined_most 32 (codes " ") (map decimal ns) (counts_all ns h.each) in
    let few = h.few in
    omega (arith, most, few, length-map ns decimal)

-- ---- complexes

amounts_at : (n c : ℕ) (xs : List (List ℤ)) → AllByRecursion (IsVector n) xs → AllByRecursion IsAmount (get_or xs c [])
amounts_at n c [] h = tt
amounts_at n zero (x ∷ xs) h = h.0.1
amounts_at n (suc c) (x ∷ xs) h = amounts_at n c xs h.1

side_most : (net : Net) → IsNetwork net → (v : List ℤ) → AllByRecursion IsAmount v → length (side net.names v) ≤ 2221
side_most net n v h =
    let p = n.partial in
    let limit = p.species_limit in
    let most = side_length (held net.names v) (good_terms net.names v p.names_spelled h) in
    omega (arith, limit, most, held_length net.names v, ap length (side_held net.names v))

complex_most : (net : Net) → IsNetwork net → (c : ℕ) → length (complex_text net c) ≤ 2221
complex_most net n c = let p = n.partial in side_most net n (get_or net.complexes c []) (amounts_at (length net.names) c net.complexes p.vectors)

sides_all : (net : Net) → IsNetwork net → (ys : List (List ℤ)) → AllByRecursion (IsVector (length net.names)) ys → AllByRecursion (λ x. length x + length (codes "; ") ≤ 2223) (map (side net.names) ys)
sides_all net n [] h = tt
sides_all net n (y ∷ ys) h = (omega (arith, side_most net n y h.0.1), sides_all net n ys h.1)

pub complexes_most : (net : Net) → IsNetwork net → length (joined (codes "; ") (complex_texts net)) ≤ 400000
complexes_most net n =
    let p = n.partial in
    let limit = p.complexes_limit in
    let most = joined_most 2223 (codes "; ") (complex_texts net) (sides_all net n net.complexes p.vectors) in
    omega (arith, limit, most, length-map net.complexes (side net.names))

record IsPartOf (xs ys : List (List ℕ)) : Type 0 where
  few : length xs ≤ length ys
  all : (m : ℕ) → AllByRecursion (λ x. length x + length (codes "; ") ≤ m) ys → AllByRecursion (λ x. length x + length (codes "; ") ≤ m) xs

label_part : (k : ℕ) (labels : List ℕ) (texts : List (List ℕ)) → IsPartOf (of_label k labels texts) texts
label_part k [] texts = record { few = omega arith; all = λ m h. tt }
label_part k (l ∷ labels) [] = record { few = omega arith; all = λ m h. tt }
label_part k (l ∷ labels) (t ∷ texts) =
    let r = label_part k labels texts in
    elim (cases_Bool (l == k)) as (λ _. IsPartOf (of_label k (l ∷ labels) (t ∷ texts)) (t ∷ texts)) [
      | inl hit ↦ rw hit (record { few = omega (arith, r.few); all = λ m h. (h.0, r.all m h.1) })
      | inr miss ↦ rw miss (record { few = omega (arith, r.few); all = λ m h. r.all m h.1 })
    ]

members_most : (net : Net) → IsNetwork net → (labels : List ℕ) (k : ℕ) → length (members_text net labels k) ≤ 400000
members_most net n labels k =
    let p = n.partial in
    let limit = p.complexes_limit in
    let part = label_part k labels (complex_texts net) in
    let few = part.few in
    let most = joined_most 2223 (codes "; ") (of_label k labels (complex_texts net)) (part.all 2223 (sides_all net n net.complexes p.vectors)) in
    omega (arith, limit, few, most, length-map net.complexes (side net.names))

walk_all : (net : Net) → IsNetwork net → (cs : List ℕ) → AllByRecursion (λ x. length x + length (codes "; ") ≤ 2223) (map (λ c. complex_text net (c - 1)) cs)
walk_all net n [] = tt
walk_all net n (c ∷ cs) = (omega (arith, complex_most net n (c - 1)), walk_all net n cs)

walk_most : (net : Net) → IsNetwork net → (cs : List ℕ) → length cs ≤ 400 → length (walk_text net cs) ≤ 1000000
walk_most net n cs few =
    let most = joined_most 2223 (codes "; ") (map (λ c. complex_text net (c - 1)) cs) (walk_all net n cs) in
    omega (arith, few, most, length-map cs (λ c. complex_text net (c - 1)))

arrow_most : (net : Net) → IsNetwork net → (r : ℕ × ℕ) → length (arrow_text net r) ≤ 5000
arrow_most net n r =
    omega (arith, complex_most net n r.0, complex_most net n r.1, three (complex_text net r.0) (codes " -> ") (complex_text net r.1))

-- ---- lines

titled_is : (name text : List ℕ) → length (titled_line name text) ≡ length name + length text + 5
titled_is name text = omega (arith, five (codes "  ") name (codes ": ") text (codes "\n"))

class_most : (net : Net) → IsNetwork net → (labels : List ℕ) (k : ℕ) → k ≤ 1000 → length (class_line net labels k) ≤ 500000
unfolding class_line
class_most net n labels k le =
    omega (arith, titled_is (codes "class " ++ decimal k) (members_text net labels k), members_most net n labels k, count_most k le, length-append (codes "class ") (decimal k))

terminal_most : (exit : ℕ) → length (terminal_text exit) ≤ 20
terminal_most zero = omega arith
terminal_most (suc exit) = omega arith

strong_most : (net : Net) → IsNetwork net → (labels exits : List ℕ) (k : ℕ) → k ≤ 1000 → length (strong_line net labels exits k) ≤ 500000
unfolding strong_line
strong_most net n labels exits k le =
    let mark = terminal_text (get_or exits (k - 1) 0) in
    omega (arith, titled_is (codes "strong " ++ decimal k) (members_text net labels k ++ mark), members_most net n labels k, count_most k le, terminal_most (get_or exits (k - 1) 0), length-append (codes "strong ") (decimal k), length-append (members_text net labels k) mark)

lines_most : (line : ℕ → List ℕ) (k count : ℕ) → ((j : ℕ) → j ≤ 1000 → length (line j) ≤ 500000) → k + count ≤ 1001 → length (lines_from line k count) ≤ 500000 * count
lines_most line k zero h le = omega arith
lines_most line k (suc count) h le =
    let more = lines_most line (k + 1) count h (omega (arith, le)) in
    omega (arith, h k (omega (arith, le)), more, length-append (line k) (lines_from line (k + 1) count))

-- ---- words

-- what a question says has few bytes
record IsWorded (q : Question) : Type 0 where
  title_few : length (title q) ≤ 30
  yes_few : length (yes_words q) ≤ 20
  no_few : length (no_words q) ≤ 20
  vector_few : length (vector_title q) ≤ 30

worded : (q : Question) → IsWorded q
worded Q1 = record { title_few = omega arith; yes_few = omega arith; no_few = omega arith; vector_few = omega arith }
worded Q2 = record { title_few = omega arith; yes_few = omega arith; no_few = omega arith; vector_few = omega arith }
worded Q3 = record { title_few = omega arith; yes_few = omega arith; no_few = omega arith; vector_few = omega arith }
worded Q4 = record { title_few = omega arith; yes_few = omega arith; no_few = omega arith; vector_few = omega arith }
worded Q5 = record { title_few = omega arith; yes_few = omega arith; no_few = omega arith; vector_few = omega arith }
worded Q6 = record { title_few = omega arith; yes_few = omega arith; no_few = omega arith; vector_few = omega arith }
worded Q7 = record { title_few = omega arith; yes_few = omega arith; no_few = omega arith; vector_few = omega arith }
worded Q8 = record { title_few = omega arith; yes_few = omega arith; no_few = omega arith; vector_few = omega arith }
worded Q9 = record { title_few = omega arith; yes_few = omega arith; no_few = omega arith; vector_few = omega arith }
worded Q10 = record { title_few = omega arith; yes_few = omega arith; no_few = omega arith; vector_few = omega arith }
worded Q11 = record { title_few = omega arith; yes_few = omega arith; no_few = omega arith; vector_few = omega arith }
worded Q12 = record { title_few = omega arith; yes_few = omega arith; no_few = omega arith; vector_few = omega arith }
worded Q13 = record { title_few = omega arith; yes_few = omega arith; no_few = omega arith; vector_few = omega arith }
worded Q14 = record { title_few = omega arith; yes_few = omega arith; no_few = omega arith; vector_few = omega arith }
worded Q15 = record { title_few = omega arith; yes_few = omega arith; no_few = omega arith; vector_few = omega arith }

weak_most : (weak : Bool) → length (weak_words weak) ≤ 50
weak_most true = omega arith
weak_most false = omega arith

gap_words_most : (gap : Gap) → IsShortGap gap → length (gap_words gap) ≤ 14000
gap_words_most (Wide system class index basis) h = omega arith
gap_words_most (Budget nodes) h = omega (arith, length-append (codes "open, budget ") (decimal nodes), decimal_most nodes (omega (arith, h)))
gap_words_most (Rests question) h = omega (arith, length-append (codes "open, rests on Q") (decimal question), count_most question h)

words_most : (net : Net) (q : Question) (v : Verdict) → IsShort net v → length (verdict_words q v) ≤ 14000
words_most net q (Classes count label) h = omega (arith, count_most count (omega (arith, h)))
words_most net q (Strong count terminal label exit) h =
    omega (arith, count_most count (omega (arith, h.0)), count_most terminal h.1, three (decimal count) (codes ", terminal ") (decimal terminal))
words_most net q (Rank rank base) h = omega (arith, count_most rank h.0)
words_most net q (Deficiency total classes) h =
    omega (arith, count_most total h.0, numbers_most classes.list h.1, three (decimal total) (codes ", classes ") (numbers_text classes.list))
words_most net q Yes h = let w = worded q in let few = w.yes_few in omega (arith, few)
words_most net q (YesWeak weak) h = omega (arith, weak_most weak)
words_most net q (YesVec vector) h = omega arith
words_most net q (YesSignal turn shelves mu m weights) h = omega arith
words_most net q No h = omega arith
words_most net q (NoReaction reaction) h = omega arith
words_most net q (NoVec multipliers) h = omega arith
words_most net q (NoNumber number) h = omega (arith, count_most number h, length-append (codes "hypotheses fail, deficiency ") (decimal number))
words_most net q (NoTerminal class count) h =
    let w = worded q in
    let few = w.no_few in
    omega (arith, few, count_most class h.0, count_most count h.1, six (no_words q) (codes "class ") (decimal class) (codes " has ") (decimal count) (codes " terminal classes"))
words_most net q (NoClass class number) h =
    let w = worded q in
    let few = w.no_few in
    omega (arith, few, count_most class h.0, count_most number h.1, five (no_words q) (codes "class ") (decimal class) (codes " has deficiency ") (decimal number))
words_most net q (NoSum total) h =
    let w = worded q in
    let few = w.no_few in
    omega (arith, few, count_most total h, three (no_words q) (codes "class deficiencies sum to ") (decimal total))
words_most net q NoDependence h = let w = worded q in let few = w.no_few in omega (arith, few, length-append (no_words q) (codes "not positively dependent"))
words_most net q (NoCycle reaction walk) h = let w = worded q in let few = w.no_few in omega (arith, few, length-append (no_words q) (codes "a cycle in a terminal class"))
words_most net q (NoPair alpha weights) h = omega arith
words_most net q NotRegular h = omega arith
words_most net q OnlyZero h = omega arith
words_most net q (Plane first second one two) h = omega arith
words_most net q NotApplicable h = omega arith
words_most net q (Unknown gap) h = gap_words_most gap h

-- ---- the lines below

shelf_most : (z : ℤ) → length (shelf z) ≤ 6
shelf_most (pos zero) = omega arith
shelf_most (pos (suc n)) = omega arith
shelf_most (negsuc n) = omega arith

shelves_all : (zs : List ℤ) → AllByRecursion (λ x. length x + length (codes " ") ≤ 7) (map shelf zs)
shelves_all [] = tt
shelves_all (z ∷ zs) = (omega (arith, shelf_most z), shelves_all zs)

shelves_most : (zs : List ℤ) → length zs ≤ 400 → length (shelves_text zs) ≤ 2800
shelves_most zs few =
    let most = joined_most 7 (codes " ") (map shelf zs) (shelves_all zs) in
    omega (arith, few, most, length-map zs shelf)

class_text_most : (class : ℕ) → class ≤ 1000 → length (class_text class) ≤ 40
class_text_most zero le = omega arith
class_text_most (suc k) le = omega (arith, count_most (suc k) le, length-append (codes " class ") (decimal (suc k)))

system_most : (system class : ℕ) → system ≤ 1000 → class ≤ 1000 → length (system_line system class) ≤ 100
unfolding system_line
system_most system class a b =
    omega (arith, count_most system a, class_text_most class b, four (codes "  system ") (decimal system) (class_text class) (codes "\n"))

index_most : (index : ℕ) → index ≤ 1000 → length (index_line index) ≤ 100
unfolding index_line
index_most index a = omega (arith, count_most index a, three (codes "  index ") (decimal index) (codes "\n"))

gap_most : (gap : Gap) → IsShortGap gap → length (gap_details gap) ≤ 20000
gap_most (Wide system class index basis) h =
    let last = titled_line (codes "basis") (numbers_text basis.list) in
    omega (arith, system_most system class h.0 h.1, index_most index h.2, numbers_most basis.list h.3, titled_is (codes "basis") (numbers_text basis.list), three (system_line system class) (index_line index) last)
gap_most (Budget nodes) h = omega arith
gap_most (Rests question) h = omega arith

signal_most : (turn : ℤ) (shelves mu : List ℤ) (m : ℤ) → IsShortNumber turn → length shelves ≤ 400 → AreShort mu → IsShortNumber m → length (signal_details turn shelves mu m) ≤ 20000
signal_most turn shelves mu m a b c d =
    let turn_line = titled_line (codes "turn") (signed_decimal turn) in
    let shelves_line = titled_line (codes "shelves") (shelves_text shelves) in
    let mu_line = titled_line (codes "mu") (vector_text mu) in
    let level_line = titled_line (codes "m") (signed_decimal m) in
    omega (
      arith,
      signed_most turn a,
      shelves_most shelves b,
      vector_most mu c,
      signed_most m d,
      titled_is (codes "turn") (signed_decimal turn),
      titled_is (codes "shelves") (shelves_text shelves),
      titled_is (codes "mu") (vector_text mu),
      titled_is (codes "m") (signed_decimal m),
      four turn_line shelves_line mu_line level_line,
    )

details_most : (net : Net) → IsNetwork net → (q : Question) (v : Verdict) → IsShort net v → length (details net q v) ≤ 200000000
details_most net n q (Classes count label) h = omega (arith, h, lines_most (class_line net label.list) 1 count (λ j le. class_most net n label.list j le) (omega (arith, h)))
details_most net n q (Strong count terminal label exit) h = let few = h.0 in omega (arith, few, lines_most (strong_line net label.list exit.list) 1 count (λ j le. strong_most net n label.list exit.list j le) (omega (arith, few)))
details_most net n q (Rank rank base) h = omega (arith, titled_is (codes "independent reactions") (numbers_text base.list), numbers_most base.list h.1)
details_most net n q (Deficiency total classes) h = omega arith
details_most net n q Yes h = omega arith
details_most net n q (YesWeak weak) h = omega arith
details_most net n q (YesVec vector) h = let w = worded q in let few = w.vector_few in omega (arith, few, titled_is (vector_title q) (vector_text vector.list), vector_most vector.list h)
details_most net n q (YesSignal turn shelves mu m weights) h = let most = signal_most turn shelves.list mu.list m h.0 h.1 h.2 h.3 in omega (arith, most)
details_most net n q No h = omega arith
details_most net n q (NoReaction reaction) h =
    let r = get_or net.reactions (reaction - 1) (0, 0) in
    omega (arith, titled_is (codes "reaction " ++ decimal reaction) (reaction_text net reaction), arrow_most net n r, count_most reaction h, length-append (codes "reaction ") (decimal reaction))
details_most net n q (NoVec multipliers) h = omega (arith, titled_is (codes "multipliers") (vector_text multipliers.list), vector_most multipliers.list h)
details_most net n q (NoNumber number) h = omega arith
details_most net n q (NoTerminal class count) h = omega arith
details_most net n q (NoClass class number) h = omega arith
details_most net n q (NoSum total) h = omega arith
details_most net n q NoDependence h = omega arith
details_most net n q (NoCycle reaction walk) h =
    omega (arith, titled_is (codes "reaction " ++ decimal reaction ++ codes ", walk") (walk_text net walk.list), walk_most net n walk.list h.1, count_most reaction h.0, three (codes "reaction ") (decimal reaction) (codes ", walk"))
details_most net n q (NoPair alpha weights) h =
    let one = titled_line (codes "sigma") (vector_text (sigma net weights.list)) in
    let two = titled_line (codes "alpha") (vector_text alpha.list) in
    omega (arith, vector_most (sigma net weights.list) h.0, vector_most alpha.list h.1, titled_is (codes "sigma") (vector_text (sigma net weights.list)), titled_is (codes "alpha") (vector_text alpha.list), length-append one two)
details_most net n q NotRegular h = omega arith
details_most net n q OnlyZero h = omega arith
details_most net n q (Plane first second one two) h =
    let a = titled_line (codes "vector") (vector_text one.list) in
    let b = titled_line (codes "vector") (vector_text two.list) in
    omega (arith, vector_most one.list h.0, vector_most two.list h.1, titled_is (codes "vector") (vector_text one.list), titled_is (codes "vector") (vector_text two.list), length-append a b)
details_most net n q NotApplicable h = omega arith
details_most net n q (Unknown gap) h = let most = gap_most gap h in omega (arith, most)

-- ---- a question, and all questions

question_most : (net : Net) → IsNetwork net → (q : Question) (v : Verdict) → IsShort net v → length (question_lines net (q, v)) ≤ 201000000
question_most net n q v h =
    let w = worded q in
    let few = w.title_few in
    let said = verdict_words q v in
    omega (
      arith,
      few,
      words_most net q v h,
      details_most net n q v h,
      length-append (question_line q v) (details net q v),
      four (title q) (codes ": ") said (codes "\n"),
    )

questions_most : (net : Net) → IsNetwork net → (qs : List Question) (vs : List Verdict) → AllByRecursion (IsShort net) vs → length (all_lines net qs vs) ≤ 201000000 * length qs
questions_most net n [] vs h = omega arith
questions_most net n (q ∷ qs) [] h = omega arith
questions_most net n (q ∷ qs) (v ∷ vs) h =
    omega (arith, question_most net n q v h.0, questions_most net n qs vs h.1, length-append (question_lines net (q, v)) (all_lines net qs vs))

-- ---- a report

names_all : (names : List (List ℕ)) → AllByRecursion IsName names → AllByRecursion (λ x. length x + length (codes " ") ≤ 33) names
names_all [] h = tt
names_all (x ∷ names) h = (let few = h.0.1 in omega (arith, few), names_all names h.1)

species_most : (net : Net) → IsNetwork net → length (species_line net) ≤ 3000
unfolding species_line
species_most net n =
    let p = n.partial in
    let limit = p.species_limit in
    let names = joined (codes " ") net.names in
    let most = joined_most 33 (codes " ") net.names (names_all net.names p.names_spelled) in
    omega (
      arith,
      limit,
      most,
      count_most (length net.names) (omega (arith, limit)),
      five (codes "species ") (decimal (length net.names)) (codes ": ") names (codes "\n"),
    )

complex_line_most : (net : Net) → IsNetwork net → length (complexes_line net) ≤ 500000
unfolding complexes_line
complex_line_most net n =
    let p = n.partial in
    let limit = p.complexes_limit in
    let all = joined (codes "; ") (complex_texts net) in
    omega (
      arith,
      complexes_most net n,
      count_most (length net.complexes) (omega (arith, limit)),
      five (codes "complexes ") (decimal (length net.complexes)) (codes ": ") all (codes "\n"),
    )

reactions_most : (net : Net) → IsNetwork net → length (reactions_line net) ≤ 100
unfolding reactions_line
reactions_most net n =
    let p = n.partial in
    let limit = p.reactions_limit in
    omega (arith, count_most (length net.reactions) (omega (arith, limit)), three (codes "reactions ") (decimal (length net.reactions)) (codes "\n"))

first_most : length first_line ≤ 20
unfolding first_line
first_most = omega arith

head_most : (net : Net) → IsNetwork net → length (head net) ≤ 600000
head_most net n =
    omega (
      arith,
      first_most,
      species_most net n,
      complex_line_most net n,
      reactions_most net n,
      four first_line (species_line net) (complexes_line net) (reactions_line net),
    )

one_most : (v : Verdict) → one_if_open v ≤ 1
one_most v = elim v as (λ v. one_if_open v ≤ 1) [
  | Classes count label ↦ omega arith
  | Strong count terminal label exit ↦ omega arith
  | Rank rank base ↦ omega arith
  | Deficiency total classes ↦ omega arith
  | Yes ↦ omega arith
  | YesWeak weak ↦ omega arith
  | YesVec vector ↦ omega arith
  | YesSignal turn shelves mu m weights ↦ omega arith
  | No ↦ omega arith
  | NoReaction reaction ↦ omega arith
  | NoVec multipliers ↦ omega arith
  | NoNumber number ↦ omega arith
  | NoTerminal class count ↦ omega arith
  | NoClass class number ↦ omega arith
  | NoSum total ↦ omega arith
  | NoDependence ↦ omega arith
  | NoCycle reaction walk ↦ omega arith
  | NoPair alpha weights ↦ omega arith
  | NotRegular ↦ omega arith
  | OnlyZero ↦ omega arith
  | Plane first second one two ↦ omega arith
  | NotApplicable ↦ omega arith
  | Unknown gap ↦ omega arith
]

open_few : (vs : List Verdict) → open_count vs ≤ length vs
open_few [] = omega arith
open_few (v ∷ vs) = omega (arith, one_most v, open_few vs)

open_most : (count : ℕ) → count ≤ 1000 → length (open_line count) ≤ 50
unfolding open_line
open_most count le = omega (arith, count_most count le, three (codes "open: ") (decimal count) (codes "\n"))

-- a report of short verdicts on few questions is shorter than a document may be
pub short_reports : (net : Net) (qs : List Question) (vs : List Verdict) → IsNetwork net → length qs ≤ 15 → length vs ≤ 15 → AllByRecursion (IsShort net) vs → length (render qs net vs) < MAX_DOCUMENT
short_reports net qs vs n few many h =
    let count = open_count vs in
    omega (
      arith,
      few,
      many,
      head_most net n,
      questions_most net n qs vs h,
      open_most count (omega (arith, many, open_few vs)),
      three (head net) (all_lines net qs vs) (open_line count),
    )
