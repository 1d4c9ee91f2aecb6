-- A text whose lines have no fault by themselves spells a network if its statements are few.
use Rattle.crn_sample.proofs.Prelude.{◌≡◌, ℕ, zero, suc, ◌+◌, ◌<◌, ◌≤◌, ◌&&◌, Bool, true, false, List, [], ◌∷◌, ◌++◌, Option, Some, None, length, take, drop, get_or, refl, sym, ap, ◌∙◌, append_assoc, inl, inr, arith, ℤ, map, nat_lt, nat_le, not, is_some, flat_map, list_all, bytes_eq, int_eq, pointwise, le-ltb, leb-true, length-append, length-map, flat_map-append, length-filter_both, list_all-append, firsts, Net, Statement, sides_eq, said_by, names_in, MAX_SPECIES, MAX_COMPLEXES, MAX_REACTIONS, MAX_TEXT, firsts_length, and_first, and_cases, lines, line_statements, all_statements, both_of, complexes_of, is_empty, is_self, limits_fault, names_of, own_fault, reactions_of, statement_fault, statements_fault, Spells, fault_on, TextCode, judged, flat_map_whole}

-- ---- what is computed of a text

-- no line has a fault by itself
abbrev pub are_sound : List (List ℕ) → Bool
are_sound ls = list_all (λ line. not (is_some (own_fault line))) ls

-- no statement has two equal sides
abbrev pub are_apart : List Statement → Bool
are_apart ss = list_all (λ s. not (is_self s)) ss

-- there are at least one statement and few of them, with few names
abbrev pub are_few : List Statement → Bool
are_few ss = not (is_empty ss) && (nat_le (length ss) 80 && nat_le (length (names_of ss)) MAX_SPECIES)

unfoldable pub is_fine : List ℕ → Bool
is_fine text = nat_le (length text) MAX_TEXT && (are_sound (lines text) && (are_apart (all_statements (lines text)) && are_few (all_statements (lines text))))

-- ---- tests

is_false : (b : Bool) → not b ≡ true → b ≡ false
is_false true e = absurd (let h : false ≡ true = e in cc)
is_false false e = refl

is_none : (o : Option TextCode) → not (is_some o) ≡ true → o ≡ None
is_none None e = refl
is_none (Some code) e = absurd (let h : false ≡ true = e in cc)

sound_at : (ls : List (List ℕ)) (k : ℕ) → k < length ls → are_sound ls ≡ true → own_fault (get_or ls k []) ≡ None
sound_at [] k lt e = absurd (omega arith)
sound_at (line ∷ ls) zero lt e = is_none (own_fault line) (and_first _ _ e)
sound_at (line ∷ ls) (suc k) lt e = sound_at ls k (omega arith) (and_cases _ _ e).1

-- ---- few statements exceed no limit

record IsFew (ss : List Statement) : Type 0 where
  names : length (names_of ss) ≤ MAX_SPECIES
  statements : length ss ≤ 80

few_firsts : {A : Type 0} (same : A → A → Bool) (xs : List A) → length (firsts same xs) ≤ length xs
few_firsts same [] = omega arith
few_firsts same (x ∷ xs) =
    let both = length-filter_both (λ y. not (same x y)) (λ y. not (not (same x y))) (λ y. refl) (firsts same xs) in
    omega (arith, few_firsts same xs, both)

both_long : (rs : List (List ℤ × List ℤ)) → length (flat_map both_of rs) ≡ length rs + length rs
both_long [] = refl
both_long (r ∷ rs) = let e = both_long rs in omega (arith, e)

no_limit : (ss : List Statement) → IsFew ss → limits_fault ss ≡ None
no_limit ss few =
    let said : length (map_of ss) ≡ length ss = length-map ss (said_by (names_of ss)) in
    let reactions : length (reactions_of ss) ≤ length ss = omega (arith, few_firsts sides_eq (map_of ss), said) in
    let complexes : length (complexes_of ss) ≤ length ss + length ss = omega (arith, few_firsts (pointwise int_eq) (flat_map both_of (reactions_of ss)), both_long (reactions_of ss), reactions) in
    let first : nat_lt MAX_SPECIES (length (names_of ss)) ≡ false = le-ltb MAX_SPECIES _ few.names in
    let second : nat_lt MAX_COMPLEXES (length (complexes_of ss)) ≡ false = le-ltb MAX_COMPLEXES _ (omega (arith, complexes, few.statements)) in
    let third : nat_lt MAX_REACTIONS (length (reactions_of ss)) ≡ false = le-ltb MAX_REACTIONS _ (omega (arith, reactions, few.statements)) in
    rw (first, second, third) refl
  where
    map_of : List Statement → List (List ℤ × List ℤ)
    map_of ts = map (said_by (names_of ts)) ts

few_prefix : (all first rest : List Statement) → IsFew all → all ≡ first ++ rest → IsFew first
few_prefix all first rest few e =
    let whole : names_of all ≡ firsts bytes_eq (flat_map names_in first ++ flat_map names_in rest) = ap names_of e ∙ ap (firsts bytes_eq) (flat_map-append names_in first rest) in
    record {
      names = omega (arith, few.names, ap length whole, firsts_length bytes_eq (flat_map names_in first) (flat_map names_in rest));
      statements = omega (arith, few.statements, ap length e, length-append first rest);
    }

-- ---- no line has a fault

apart_in : (all before : List Statement) (s : Statement) (rest : List Statement) → are_apart all ≡ true → all ≡ before ++ (s ∷ rest) → is_self s ≡ false
apart_in all before s rest h e =
    let split : (are_apart before && (not (is_self s) && are_apart rest)) ≡ true = sym (list_all-append (λ t. not (is_self t)) before (s ∷ rest)) ∙ ap are_apart (sym e) ∙ h in
    is_false (is_self s) (and_first _ _ (and_cases _ _ split).1)

fine_statements : (all before ss rest : List Statement) → IsFew all → are_apart all ≡ true → all ≡ before ++ (ss ++ rest) → statements_fault before ss ≡ None
unfolding statement_fault
fine_statements all before [] rest few apart e = refl
fine_statements all before (s ∷ ss) rest few apart e =
    let more : all ≡ (before ++ s ∷ []) ++ (ss ++ rest) = e ∙ sym (append_assoc before (s ∷ []) (ss ++ rest)) in
    let self : is_self s ≡ false = apart_in all before s (ss ++ rest) apart e in
    let limits : limits_fault (before ++ s ∷ []) ≡ None = no_limit (before ++ s ∷ []) (few_prefix all (before ++ s ∷ []) (ss ++ rest) few more) in
    rw (self, limits) (fine_statements all (before ++ s ∷ []) ss rest few apart more)

fine_line : (ls : List (List ℕ)) (k : ℕ) → k < length ls → are_sound ls ≡ true → are_apart (all_statements ls) ≡ true → IsFew (all_statements ls) → fault_on ls k ≡ None
fine_line ls k lt sound apart few =
    let before = all_statements (take k ls) in
    let own = line_statements (get_or ls k []) in
    let rest = all_statements (drop (suc k) ls) in
    let whole : all_statements ls ≡ before ++ (own ++ rest) = flat_map_whole line_statements ls k [] lt ∙ append_assoc before own rest in
    rw (sound_at ls k lt sound) (fine_statements (all_statements ls) before own rest few apart whole)

-- ---- the whole text

some_statement : (ss : List Statement) → not (is_empty ss) ≡ true → ss ≡ [] → ⊥
some_statement [] e none = let h : false ≡ true = e in cc
some_statement (s ∷ ss) e none = cc

-- what is computed, one by one
record IsFine (text : List ℕ) : Type 0 where
  short : length text ≤ MAX_TEXT
  sound : are_sound (lines text) ≡ true
  apart : are_apart (all_statements (lines text)) ≡ true
  some : not (is_empty (all_statements (lines text))) ≡ true
  few : IsFew (all_statements (lines text))

fine_parts : (text : List ℕ) → is_fine text ≡ true → IsFine text
unfolding is_fine
fine_parts text e =
    let ss : List Statement = all_statements (lines text) in
    let rest = (and_cases (nat_le (length text) MAX_TEXT) (are_sound (lines text) && (are_apart ss && are_few ss)) e).1 in
    let more = (and_cases (are_sound (lines text)) (are_apart ss && are_few ss) rest).1 in
    let least = (and_cases (are_apart ss) (are_few ss) more).1 in
    let numbers = (and_cases (not (is_empty ss)) (nat_le (length ss) 80 && nat_le (length (names_of ss)) MAX_SPECIES) least).1 in
    record {
      short = leb-true (length text) MAX_TEXT (and_first (nat_le (length text) MAX_TEXT) (are_sound (lines text) && (are_apart ss && are_few ss)) e);
      sound = and_first (are_sound (lines text)) (are_apart ss && are_few ss) rest;
      apart = and_first (are_apart ss) (are_few ss) more;
      some = and_first (not (is_empty ss)) (nat_le (length ss) 80 && nat_le (length (names_of ss)) MAX_SPECIES) least;
      few = record {
        names = leb-true (length (names_of ss)) MAX_SPECIES (and_cases (nat_le (length ss) 80) (nat_le (length (names_of ss)) MAX_SPECIES) numbers).1;
        statements = leb-true (length ss) 80 (and_first (nat_le (length ss) 80) (nat_le (length (names_of ss)) MAX_SPECIES) numbers);
      };
    }

pub fine_is_spelled : (text : List ℕ) → is_fine text ≡ true → (net : Net) × Spells text net
fine_is_spelled text e = elim (judged text) [
  | inl spelled ↦ spelled
  | inr (line, code, inl long) ↦ let a = long.long in let b = (fine_parts text e).short in absurd (omega arith)
  | inr (line, code, inr (inl found)) ↦
      let f = fine_parts text e in
      let a = fine_line (lines text) found.before found.there f.sound f.apart f.few in
      let b = found.fault in
      absurd (let bad : None ≡ Some code = sym a ∙ b in cc)
  | inr (line, code, inr (inr without)) ↦ absurd (some_statement (all_statements (lines text)) (fine_parts text e).some without.none)
]
