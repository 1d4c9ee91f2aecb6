-- The problem of a reaction keeps what every sign problem keeps.
use Rattle.crn_endo_check.proofs.Prelude.{◌≡◌, ◌≢◌, ℕ, zero, suc, ◌+◌, ◌≤◌, ◌<◌, inl, inr, List, [], ◌∷◌, ◌++◌, length, map, replicate, Bool, true, false, cond, refl, sym, ap, ap₂, subst, ◌∙◌, arith, lit≤, eqb, ℤ, neg_ℤ, not, ◌==◌, AllZip, range_with_len, ints, false≢true, eqb-true, length-append, length-map, length-replicate, length-range_with_len, length-map-range_with_len, MAX_COMPLEXES, MAX_SIGNED, Sign, Zero, Plus, Minus, Kind, Free, width, Net, IsNetwork, reaction_vector, vectors, HasKind, is_signed, one_if, signed_count, opposite, mirror, IsLawful, IsSteady, kind_of_sign, row_kinds, is_plus, is_minus, eq_or, one_at_most, count_at_most, length-rows, plus-opposite, minus-opposite, dot-neg, length-neg, map_twice, map_same, filter_few, vectors_count, reaction_at, rise, reactants, others, later, option_of, negated, row_above, is_reactant, slope_matrix, at_least_zero_if, rise_kind, fall_kind, slope_kinds, is_slope_closed, slopes, all_refined, rows_longer, sign_opposite, rows_opposite, all_opposite, count-append, count_none}
use Rattle.std.proofs.Common.{◌&&◌}
use Rattle.crn_endo_check.proofs.SlopeRows.{above, Has, solution_by, has_by, free_solution, solution_long}

-- ---- options of longer and of mirrored prefixes

option_longer : (test : Sign → Bool) → test Zero ≡ false → (os : List ℕ) (p rest : List Sign) (c : ℕ) → test (option_of os p c) ≡ true → test (option_of os (p ++ rest) c) ≡ true
option_longer test z [] p rest c e = e
option_longer test z (o ∷ os) [] rest c e = absurd (false≢true (sym z ∙ e))
option_longer test z (o ∷ os) (s ∷ p) rest c e = by (eqb o c) refl (option_longer test z os p rest c)
  where
    by : (b : Bool) → eqb o c ≡ b → (test (option_of os p c) ≡ true → test (option_of os (p ++ rest) c) ≡ true) → test (option_of (o ∷ os) ((s ∷ p) ++ rest) c) ≡ true
    by true f h = ap (λ (b : Bool). test (cond b s (option_of os (p ++ rest) c))) f ∙ sym (ap (λ (b : Bool). test (cond b s (option_of os p c))) f) ∙ e
    by false f h = ap (λ (b : Bool). test (cond b s (option_of os (p ++ rest) c))) f ∙ h (sym (ap (λ (b : Bool). test (cond b s (option_of os p c))) f) ∙ e)

option_mirror : (os : List ℕ) (p : List Sign) (c : ℕ) → option_of os (mirror p) c ≡ opposite (option_of os p c)
option_mirror [] p c = refl
option_mirror (o ∷ os) [] c = refl
option_mirror (o ∷ os) (s ∷ p) c = by (eqb o c) refl (option_mirror os p c)
  where
    by : (b : Bool) → eqb o c ≡ b → option_of os (mirror p) c ≡ opposite (option_of os p c) → option_of (o ∷ os) (mirror (s ∷ p)) c ≡ opposite (option_of (o ∷ os) (s ∷ p) c)
    by true f h = ap (λ (b : Bool). cond b (opposite s) (option_of os (mirror p) c)) f ∙ sym (ap (λ (b : Bool). opposite (cond b s (option_of os p c))) f)
    by false f h = ap (λ (b : Bool). cond b (opposite s) (option_of os (mirror p) c)) f ∙ h ∙ sym (ap (λ (b : Bool). opposite (cond b s (option_of os p c))) f)

later_longer : (n : ℕ) (p rest : List Sign) (v : List ℤ) → AllZip HasKind (row_kinds n (later (p ++ rest))) v → AllZip HasKind (row_kinds n (later p)) v
later_longer n [] rest v h = all_refined (row_kinds n (later rest)) (row_kinds n []) v (rows_longer n [] (later rest)) h
later_longer n (s ∷ p) rest v h = all_refined (row_kinds n (p ++ rest)) (row_kinds n p) v (rows_longer n p rest) h

later_mirror : (p : List Sign) → later (mirror p) ≡ mirror (later p)
later_mirror [] = refl
later_mirror (s ∷ p) = refl

-- ---- kinds at longer prefixes

less_asked : (b' b : Bool) (x : ℤ) → (b ≡ true → b' ≡ true) → HasKind (at_least_zero_if b') x → HasKind (at_least_zero_if b) x
less_asked b' false x h k = tt
less_asked b' true x h k = subst (λ (t : Bool). HasKind (at_least_zero_if t) x) (h refl) k

and_more : (a b b' : Bool) → (b ≡ true → b' ≡ true) → (a && b) ≡ true → (a && b') ≡ true
and_more true b b' h e = h e
and_more false b b' h e = e

chosen : (b : Bool) (κ K' K : Kind) (x : ℤ) → (HasKind K' x → HasKind K x) → HasKind (cond b κ K') x → HasKind (cond b κ K) x
chosen true κ K' K x h k = k
chosen false κ K' K x h k = h k

rise_longer : (net : Net) (r : ℕ) (p rest : List Sign) (q : ℕ) (x : ℤ) → HasKind (rise_kind net r (p ++ rest) q) x → HasKind (rise_kind net r p q) x
rise_longer net r [] rest q x h = tt
rise_longer net r (s ∷ p) rest q x h =
    let os = others net r in
    let c = (reaction_at net q).0 in
    let b = is_plus (option_of os p c) in
    let b' = is_plus (option_of os (p ++ rest) c) in
    chosen (eqb q r) (kind_of_sign s) (at_least_zero_if (is_plus s && b')) (at_least_zero_if (is_plus s && b)) x
    (less_asked (is_plus s && b') (is_plus s && b) x (and_more (is_plus s) b b' (option_longer is_plus refl os p rest c))) h

fall_longer : (net : Net) (r : ℕ) (p rest : List Sign) (q : ℕ) (x : ℤ) → HasKind (fall_kind net r (p ++ rest) q) x → HasKind (fall_kind net r p q) x
fall_longer net r [] rest q x h = tt
fall_longer net r (s ∷ p) rest q x h =
    let os = others net r in
    let c = (reaction_at net q).0 in
    let b = is_minus (option_of os p c) in
    let b' = is_minus (option_of os (p ++ rest) c) in
    less_asked (is_minus s && b') (is_minus s && b) x (and_more (is_minus s) b b' (option_longer is_minus refl os p rest c)) h

longer_has : (net : Net) (r : ℕ) (p rest : List Sign) (x : List ℤ) → Has net r (rise_kind net r (p ++ rest)) (fall_kind net r (p ++ rest)) (row_kinds (length (others net r)) (later (p ++ rest))) x
    → Has net r (rise_kind net r p) (fall_kind net r p) (row_kinds (length (others net r)) (later p)) x
longer_has net r p rest x h = record {
  long = h.long;
  rises_have = λ q lt. rise_longer net r p rest q (rise net x q) (h.rises_have q lt);
  falls_have = λ q lt. fall_longer net r p rest q (neg_ℤ (rise net x q)) (h.falls_have q lt);
  tops_have = later_longer (length (others net r)) p rest (map (above net r x) (others net r)) h.tops_have;
}

-- ---- kinds at mirrored prefixes

turned_rise : (b : Bool) (s : Sign) (K K' : Kind) (v : ℤ) → HasKind K' (neg_ℤ v) → HasKind (cond b (kind_of_sign s) K) v → HasKind (cond b (kind_of_sign (opposite s)) K') (neg_ℤ v)
turned_rise true s K K' v h k = sign_opposite s v k
turned_rise false s K K' v h k = h

-- a rise of the kind of plus is at least 0
also_least : (b : Bool) (s : Sign) (t : Bool) (v : ℤ) → HasKind (cond b (kind_of_sign s) (at_least_zero_if (is_plus s && t))) v → HasKind (at_least_zero_if (is_plus s && t)) v
also_least false s t v k = k
also_least true Zero t v k = tt
also_least true Minus t v k = tt
also_least true Plus false v k = tt
also_least true Plus true v k = omega (arith, ints, k)

pub rise-neg : (net : Net) (x : List ℤ) (q : ℕ) → rise net (map neg_ℤ x) q ≡ neg_ℤ (rise net x q)
rise-neg net x q = dot-neg (reaction_vector net (reaction_at net q)) x

above-neg : (net : Net) (r : ℕ) (x : List ℤ) → map neg_ℤ (map (above net r x) (others net r)) ≡ map (above net r (map neg_ℤ x)) (others net r)
above-neg net r x = map_twice (above net r x) neg_ℤ (others net r) ∙ map_same (λ c. neg_ℤ (above net r x c)) (above net r (map neg_ℤ x)) (others net r) (λ c i. sym (dot-neg (row_above net r c) x))

tops_turned : (net : Net) (r : ℕ) (p : List Sign) (x : List ℤ) → AllZip HasKind (row_kinds (length (others net r)) (later p)) (map (above net r x) (others net r))
    → AllZip HasKind (row_kinds (length (others net r)) (later (mirror p))) (map (above net r (map neg_ℤ x)) (others net r))
tops_turned net r p x h =
    let n = length (others net r) in
    let v = map (above net r x) (others net r) in
    let turned : AllZip HasKind (row_kinds n (mirror (later p))) (map neg_ℤ v) = all_opposite (row_kinds n (mirror (later p))) (row_kinds n (later p)) v (rows_opposite n (later p)) h in
    subst (λ (l : List ℤ). AllZip HasKind (row_kinds n (later (mirror p))) l) (above-neg net r x)
    (subst (λ (q : List Sign). AllZip HasKind (row_kinds n q) (map neg_ℤ v)) (sym (later_mirror p)) turned)

mirrored_has : (net : Net) (r : ℕ) (p : List Sign) (x : List ℤ) → Has net r (rise_kind net r p) (fall_kind net r p) (row_kinds (length (others net r)) (later p)) x
    → Has net r (rise_kind net r (mirror p)) (fall_kind net r (mirror p)) (row_kinds (length (others net r)) (later (mirror p))) (map neg_ℤ x)
mirrored_has net r [] x h = record {
  long = length-neg x ∙ h.long;
  rises_have = λ q lt. tt;
  falls_have = λ q lt. tt;
  tops_have = tops_turned net r [] x h.tops_have;
}
mirrored_has net r (s ∷ p) x h =
    let os = others net r in
    let plus : (q : ℕ) → (is_plus (opposite s) && is_plus (option_of os (mirror p) (reaction_at net q).0)) ≡ (is_minus s && is_minus (option_of os p (reaction_at net q).0)) =
    λ q. let o = option_of os p (reaction_at net q).0 in ap₂ (λ (a b : Bool). a && b) (plus-opposite s) (ap is_plus (option_mirror os p (reaction_at net q).0) ∙ plus-opposite o) in
    let minus : (q : ℕ) → (is_minus (opposite s) && is_minus (option_of os (mirror p) (reaction_at net q).0)) ≡ (is_plus s && is_plus (option_of os p (reaction_at net q).0)) =
    λ q. let o = option_of os p (reaction_at net q).0 in ap₂ (λ (a b : Bool). a && b) (minus-opposite s) (ap is_minus (option_mirror os p (reaction_at net q).0) ∙ minus-opposite o) in
    record {
      long = length-neg x ∙ h.long;
      rises_have = λ q lt.
          let v = rise net x q in
          let o = option_of os p (reaction_at net q).0 in
          let K = at_least_zero_if (is_plus s && is_plus o) in
          let K' = at_least_zero_if (is_plus (opposite s) && is_plus (option_of os (mirror p) (reaction_at net q).0)) in
          subst (λ (y : ℤ). HasKind (cond (eqb q r) (kind_of_sign (opposite s)) K') y) (sym (rise-neg net x q))
          (turned_rise (eqb q r) s K K' v (subst (λ (t : Bool). HasKind (at_least_zero_if t) (neg_ℤ v)) (sym (plus q)) (h.falls_have q lt)) (h.rises_have q lt));
      falls_have = λ q lt.
          let v = rise net x q in
          let o = option_of os p (reaction_at net q).0 in
          let back : neg_ℤ (rise net (map neg_ℤ x) q) ≡ v = omega (arith, ints, rise-neg net x q) in
          subst (λ (y : ℤ). HasKind (at_least_zero_if (is_minus (opposite s) && is_minus (option_of os (mirror p) (reaction_at net q).0))) y) (sym back)
          (subst (λ (t : Bool). HasKind (at_least_zero_if t) v) (sym (minus q)) (also_least (eqb q r) s (is_plus o) v (h.rises_have q lt)));
      tops_have = tops_turned net r (s ∷ p) x h.tops_have;
    }

-- ---- closed prefixes

closed_longer : (p rest : List Sign) → is_slope_closed p ≡ true → is_slope_closed (p ++ rest) ≡ true
closed_longer [] rest e = absurd (false≢true e)
closed_longer (s ∷ p) rest e = e

closed_mirror : (p : List Sign) → is_slope_closed (mirror p) ≡ is_slope_closed p
closed_mirror [] = refl
closed_mirror (Zero ∷ p) = refl
closed_mirror (Plus ∷ p) = refl
closed_mirror (Minus ∷ p) = refl

pub slopes_are_steady : (net : Net) (r : ℕ) → IsSteady (slopes net r)
slopes_are_steady net r =
    let m = slope_matrix net r in
    let tops = λ (p : List Sign). row_kinds (length (others net r)) (later p) in
    record {
      shorter_a = λ p rest x le s. solution_by net r (rise_kind net r p) (fall_kind net r p) (tops p) x (longer_has net r p rest x (has_by net r (rise_kind net r (p ++ rest)) (fall_kind net r (p ++ rest)) (tops (p ++ rest)) x s));
      shorter_b = λ p rest x le s. s;
      mirrored_a = λ p x le s. solution_by net r (rise_kind net r (mirror p)) (fall_kind net r (mirror p)) (tops (mirror p)) (map neg_ℤ x) (mirrored_has net r p x (has_by net r (rise_kind net r p) (fall_kind net r p) (tops p) x s));
      mirrored_b = λ p x le s. free_solution m (map neg_ℤ x) (length-neg x ∙ solution_long m (replicate (width m) Free) x s);
      longer_closed = λ p rest le e. closed_longer p rest e;
      mirror_closed = λ p le. closed_mirror p;
    }

-- ---- how many there are

none_signed : (b : Bool) → is_signed (at_least_zero_if b) ≡ false
none_signed true = refl
none_signed false = refl

rise_unsigned : (net : Net) (r : ℕ) (p : List Sign) (q : ℕ) → q ≢ r → is_signed (rise_kind net r p q) ≡ false
rise_unsigned net r [] q ne = refl
rise_unsigned net r (s ∷ p) q ne = by (eqb q r) refl
  where
    b : Bool
    b = is_plus s && is_plus (option_of (others net r) p (reaction_at net q).0)

    by : (e : Bool) → eqb q r ≡ e → is_signed (cond (eqb q r) (kind_of_sign s) (at_least_zero_if (is_plus s && is_plus (option_of (others net r) p (reaction_at net q).0)))) ≡ false
    by true f = absurd (ne (eqb-true q r f))
    by false f = ap (λ (t : Bool). is_signed (cond t (kind_of_sign s) (at_least_zero_if (is_plus s && is_plus (option_of (others net r) p (reaction_at net q).0))))) f ∙ none_signed (is_plus s && is_plus (option_of (others net r) p (reaction_at net q).0))

fall_unsigned : (net : Net) (r : ℕ) (p : List Sign) (q : ℕ) → is_signed (fall_kind net r p q) ≡ false
fall_unsigned net r [] q = refl
fall_unsigned net r (s ∷ p) q = none_signed (is_minus s && is_minus (option_of (others net r) p (reaction_at net q).0))

count_no : (f : ℕ → Kind) (qs : List ℕ) → ((q : ℕ) → is_signed (f q) ≡ false) → signed_count (map f qs) ≡ 0
count_no f [] h = refl
count_no f (q ∷ qs) h = omega (arith, count_no f qs h, ap one_if (h q))

count_apart : (f : ℕ → Kind) (r first n : ℕ) → r < first → ((q : ℕ) → q ≢ r → is_signed (f q) ≡ false) → signed_count (map f (range_with_len first n)) ≡ 0
count_apart f r first zero lt h = refl
count_apart f r first (suc n) lt h = omega (arith, ap one_if (h first (λ e. omega (arith, lt, e))), count_apart f r (first + 1) n (omega (arith, lt)) h)

count_one : (f : ℕ → Kind) (r first n : ℕ) → ((q : ℕ) → q ≢ r → is_signed (f q) ≡ false) → signed_count (map f (range_with_len first n)) ≤ 1
count_one f r first zero h = omega arith
count_one f r first (suc n) h = elim (eq_or first r) as (λ _. signed_count (map f (range_with_len first (suc n))) ≤ 1) [
  | inl e ↦ omega (arith, one_at_most (is_signed (f first)), count_apart f r (first + 1) n (omega (arith, e)) h)
  | inr ne ↦ omega (arith, ap one_if (h first ne), count_one f r (first + 1) n h)
]

pub others_few : (net : Net) (r : ℕ) → length (others net r) ≤ length net.complexes
others_few net r = omega (
  arith,
  filter_few (λ c. not (c == (reaction_at net r).0)) (reactants net),
  filter_few (is_reactant net) (range_with_len 0 (length net.complexes)),
  length-range_with_len 0 (length net.complexes),
)

pub slope_width : (net : Net) (r : ℕ) → width (slope_matrix net r) ≡ length net.names + (length net.reactions + (length net.reactions + length (others net r)))
slope_width net r = omega (
  arith,
  length-append (vectors net) (map negated (vectors net) ++ map (row_above net r) (others net r)),
  length-append (map negated (vectors net)) (map (row_above net r) (others net r)),
  length-map (vectors net) negated,
  length-map (others net r) (row_above net r),
  vectors_count net,
)

pub kinds_long : (net : Net) (r : ℕ) (p : List Sign) → length (slope_kinds net r p) ≡ width (slope_matrix net r)
kinds_long net r p =
    let n = length net.reactions in
    let ks = map (rise_kind net r p) (range_with_len 0 n) in
    let qs = map (fall_kind net r p) (range_with_len 0 n) in
    let tops = row_kinds (length (others net r)) (later p) in
    omega (
      arith,
      slope_width net r,
      length-append (replicate (length net.names) Free) (ks ++ (qs ++ tops)),
      length-append ks (qs ++ tops),
      length-append qs tops,
      length-replicate (length net.names) Free,
      length-map-range_with_len (rise_kind net r p) 0 n,
      length-map-range_with_len (fall_kind net r p) 0 n,
      length-rows (length (others net r)) (later p),
    )

pub slopes_are_lawful : (net : Net) (r : ℕ) → IsNetwork net → IsLawful (slopes net r)
slopes_are_lawful net r w = record {
  long_a = λ p le. kinds_long net r p;
  long_b = λ p le. length-replicate (width (slope_matrix net r)) Free;
  shorter_a = (slopes_are_steady net r).shorter_a;
  shorter_b = (slopes_are_steady net r).shorter_b;
  mirrored_a = (slopes_are_steady net r).mirrored_a;
  mirrored_b = (slopes_are_steady net r).mirrored_b;
  longer_closed = (slopes_are_steady net r).longer_closed;
  mirror_closed = (slopes_are_steady net r).mirror_closed;
  few_a = λ p le.
      let n = length net.reactions in
      let ks = map (rise_kind net r p) (range_with_len 0 n) in
      let qs = map (fall_kind net r p) (range_with_len 0 n) in
      let tops = row_kinds (length (others net r)) (later p) in
      let sum : MAX_COMPLEXES + 1 ≤ MAX_SIGNED = lit≤ tt in
      omega (
        arith,
        sum,
        w.partial.complexes_limit,
        others_few net r,
        count-append (replicate (length net.names) Free) (ks ++ (qs ++ tops)),
        count_none (length net.names) Free refl,
        count-append ks (qs ++ tops),
        count_one (rise_kind net r p) r 0 n (rise_unsigned net r p),
        count-append qs tops,
        count_no (fall_kind net r p) (range_with_len 0 n) (fall_unsigned net r p),
        count_at_most tops,
        length-rows (length (others net r)) (later p),
      );
  few_b = λ p le. omega (arith, count_none (width (slope_matrix net r)) Free refl);
}
