-- A slope is against a reaction if and only if some full prefix of the reaction's problem is feasible.
use Rattle.crn_endo_check.proofs.Prelude.{◌≡◌, ◌≢◌, ℕ, zero, suc, ◌≤◌, ◌<◌, ◌⊎◌, inl, inr, List, [], ◌∷◌, length, get_or, map, Bool, true, false, cond, refl, sym, ap, subst, ◌∙◌, arith, eqb, ℤ, pos, negsuc, neg_ℤ, ◌-ℤ◌, ◌≤ℤ◌, ◌<ℤ◌, not, ◌==◌, ◌||◌, AllZip, range_with_len, list_any, ints, by_lt_z, false≢true, eqb-true, eqb-false, eq-eqb, length-map, length-range_with_len, get_or-range_with_len, Sign, Zero, Plus, Minus, Pos, Neg, Free, IsIn, Net, IsNetwork, JoinsTwo, HasKind, IsFull, IsFeasible, SolvesA, sign, row_kinds, is_plus, is_minus, all_at, at_in, below_or, dot-neg, filter_has, length-neg, map_twice, vector_long, Plan, IsValid, leaves_nothing, complex_at, height, reaction_at, rise, HasLowerRise, IsAgainst, IsEndotacticAt, reactants, others, option_of, is_reactant, slope_matrix, at_least_zero_if, rise_kind, fall_kind, slopes, FeasiblePrefixesDecideEndotactic, AgainstIfFeasible, slope_by, minus-dot, rows_have, row_signs_are}
use Rattle.crn_endo_check.proofs.SlopeRows.{above, Has, solution_by, has_by, free_solution}
use Rattle.crn_endo_check.proofs.SlopeLawful.{slopes_are_steady, rise-neg}

-- ---- signs

minus_below : (x : ℤ) → is_minus (sign x) ≡ true → x <ℤ pos 0
minus_below (pos zero) e = absurd (false≢true e)
minus_below (pos (suc n)) e = absurd (false≢true e)
minus_below (negsuc n) e = omega (arith, ints)

below_minus : (x : ℤ) → x <ℤ pos 0 → is_minus (sign x) ≡ true
below_minus (pos n) h = absurd (omega (arith, ints, h))
below_minus (negsuc n) h = refl

above_plus : (x : ℤ) → pos 0 <ℤ x → is_plus (sign x) ≡ true
above_plus (pos zero) h = absurd (omega (arith, ints, h))
above_plus (pos (suc n)) h = refl
above_plus (negsuc n) h = absurd (omega (arith, ints, h))

-- ---- the options of a full prefix

-- the option of a complex is the sign of its height
option_is : (os : List ℕ) (h : ℕ → ℤ) (c : ℕ) → IsIn c os → option_of os (map (λ o. sign (h o)) os) c ≡ sign (h c)
option_is [] h c i = absurd i
option_is (o ∷ os) h c i = by (eqb o c) refl (option_is os h c)
  where
    by : (b : Bool) → eqb o c ≡ b → (IsIn c os → option_of os (map (λ o. sign (h o)) os) c ≡ sign (h c)) → cond (eqb o c) (sign (h o)) (option_of os (map (λ o. sign (h o)) os) c) ≡ sign (h c)
    by true f r = ap (λ (b : Bool). cond b (sign (h o)) (option_of os (map (λ o. sign (h o)) os) c)) f ∙ ap (λ (t : ℕ). sign (h t)) (eqb-true o c f)
    by false f r = ap (λ (b : Bool). cond b (sign (h o)) (option_of os (map (λ o. sign (h o)) os) c)) f ∙ r (elim i [ inl e ↦ absurd (eqb-false o c f (sym e)) | inr j ↦ j ])

-- and that of any other is zero
option_or : (os : List ℕ) (h : ℕ → ℤ) (c : ℕ) → (option_of os (map (λ o. sign (h o)) os) c ≡ Zero) ⊎ (option_of os (map (λ o. sign (h o)) os) c ≡ sign (h c))
option_or [] h c = inl refl
option_or (o ∷ os) h c = by (eqb o c) refl (option_or os h c)
  where
    by : (b : Bool) → eqb o c ≡ b → ((option_of os (map (λ o. sign (h o)) os) c ≡ Zero) ⊎ (option_of os (map (λ o. sign (h o)) os) c ≡ sign (h c))) → (cond (eqb o c) (sign (h o)) (option_of os (map (λ o. sign (h o)) os) c) ≡ Zero) ⊎ (cond (eqb o c) (sign (h o)) (option_of os (map (λ o. sign (h o)) os) c) ≡ sign (h c))
    by true f r = inr (ap (λ (b : Bool). cond b (sign (h o)) (option_of os (map (λ o. sign (h o)) os) c)) f ∙ ap (λ (t : ℕ). sign (h t)) (eqb-true o c f))
    by false f r = elim r [
      | inl z ↦ inl (ap (λ (b : Bool). cond b (sign (h o)) (option_of os (map (λ o. sign (h o)) os) c)) f ∙ z)
      | inr s ↦ inr (ap (λ (b : Bool). cond b (sign (h o)) (option_of os (map (λ o. sign (h o)) os) c)) f ∙ s)
    ]

-- an option of minus is that of a complex that is lower
lower_by : (os : List ℕ) (h : ℕ → ℤ) (c : ℕ) → is_minus (option_of os (map (λ o. sign (h o)) os) c) ≡ true → h c <ℤ pos 0
lower_by os h c e = elim (option_or os h c) [
  | inl z ↦ absurd (false≢true (sym (ap is_minus z) ∙ e))
  | inr s ↦ minus_below (h c) (sym (ap is_minus s) ∙ e)
]

-- ---- complexes

complex_long : (net : Net) → IsNetwork net → (c : ℕ) → c < length net.complexes → length (complex_at net c) ≡ length net.names
complex_long net n c lt = vector_long (length net.names) net.complexes n.partial.vectors c lt

joins_at : (net : Net) → IsNetwork net → (q : ℕ) → q < length net.reactions → JoinsTwo (length net.complexes) (reaction_at net q)
joins_at net n q lt = all_at (JoinsTwo (length net.complexes)) net.reactions q (0, 0) n.partial.apart lt

-- the height above the reactant of reaction r
above_is : (net : Net) → IsNetwork net → (r c : ℕ) (x : List ℤ) → r < length net.reactions → c < length net.complexes → above net r x c ≡ height net x c -ℤ height net x (reaction_at net r).0
above_is net n r c x r_lt c_lt =
    let y = (reaction_at net r).0 in
    minus-dot (complex_at net c) (complex_at net y) x (complex_long net n c c_lt ∙ sym (complex_long net n y (joins_at net n r r_lt).1))

any_at : {A : Type 0} (p : A → Bool) (xs : List A) (i : ℕ) (d : A) → i < length xs → p (get_or xs i d) ≡ true → list_any p xs ≡ true
any_at p [] i d lt e = absurd (omega arith)
any_at p (x ∷ xs) zero d lt e = ap (λ (b : Bool). b || list_any p xs) e
any_at p (x ∷ xs) (suc i) d lt e = right (p x) (list_any p xs) (any_at p xs i d (omega arith) e)
  where
    right : (a b : Bool) → b ≡ true → (a || b) ≡ true
    right true b f = refl
    right false b f = f

in_range : (n c : ℕ) → c < n → IsIn c (range_with_len 0 n)
in_range n c lt =
    subst (λ (k : ℕ). IsIn k (range_with_len 0 n)) (get_or-range_with_len 0 n c 0 lt ∙ (omega arith)) (at_in (range_with_len 0 n) c 0 (omega (arith, lt, length-range_with_len 0 n)))

pub not_eqb : (c d : ℕ) → c ≢ d → not (eqb c d) ≡ true
not_eqb c d ne = by (eqb c d) refl
  where
    by : (b : Bool) → eqb c d ≡ b → not (eqb c d) ≡ true
    by true f = absurd (ne (eqb-true c d f))
    by false f = ap not f

-- the reactant of a reaction is a reactant complex
pub in_reactants : (net : Net) → IsNetwork net → (q : ℕ) → q < length net.reactions → IsIn (reaction_at net q).0 (reactants net)
in_reactants net n q lt =
    let c = (reaction_at net q).0 in
    let some : is_reactant net c ≡ true = any_at (λ (p : ℕ × ℕ). p.0 == c) net.reactions q (0, 0) lt (eq-eqb c c refl) in
    filter_has (is_reactant net) (range_with_len 0 (length net.complexes)) c (in_range (length net.complexes) c (joins_at net n q lt).1) some

-- and among the further ones, unless it is that of r
in_others : (net : Net) → IsNetwork net → (r q : ℕ) → q < length net.reactions → (reaction_at net q).0 ≢ (reaction_at net r).0 → IsIn (reaction_at net q).0 (others net r)
in_others net n r q lt ne =
    let c = (reaction_at net q).0 in
    filter_has (λ d. not (d == (reaction_at net r).0)) (reactants net) c (in_reactants net n q lt) (not_eqb c (reaction_at net r).0 ne)

-- ---- a slope that is against the reaction gives a full feasible prefix

module _ (net : Net) (n : IsNetwork net) (r : ℕ) (r_lt : r < length net.reactions) where
  options : List ℤ → List Sign
  options x = map (λ o. sign (above net r x o)) (others net r)

  signs_are : (x : List ℤ) → map sign (map (above net r x) (others net r)) ≡ map (λ o. sign (above net r x o)) (others net r)
  signs_are x = map_twice (above net r x) sign (others net r)

  falls_first : (w : List ℤ) → IsAgainst net r w → (q : ℕ) (b : Bool) → eqb q r ≡ b → HasKind (cond b Neg Free) (rise net w q)
  falls_first w a q true f = subst (λ (k : ℕ). rise net w k ≤ℤ negsuc 0) (sym (eqb-true q r f)) a.falls
  falls_first w a q false f = tt

  falls_lower : (w : List ℤ) → IsAgainst net r w → (q : ℕ) → q < length net.reactions → (b : Bool) → is_minus (option_of (others net r) (map (λ o. sign (above net r w o)) (others net r)) (reaction_at net q).0) ≡ b → HasKind (at_least_zero_if b) (neg_ℤ (rise net w q))
  falls_lower w a q lt false f = tt
  falls_lower w a q lt true f =
      let c = (reaction_at net q).0 in
      let low : above net r w c <ℤ pos 0 = lower_by (others net r) (above net r w) c f in
      let is = above_is net n r c w r_lt (joins_at net n q lt).1 in
      by_lt_z (pos 0) (rise net w q)
      (λ up. absurd (a.none (record { q = q; inside = lt; rises = omega (arith, ints, up); lower = omega (arith, ints, low, is) })))
      (λ le. omega (arith, ints, le))

  against_has : (w : List ℤ) → IsAgainst net r w → (signs : List Sign) → signs ≡ map (λ o. sign (above net r w o)) (others net r) → Has net r (rise_kind net r (Minus ∷ signs)) (fall_kind net r (Minus ∷ signs)) (row_kinds (length (others net r)) signs) w
  against_has w a signs e =
      let os = others net r in
      record {
        long = a.long;
        rises_have = λ q lt. falls_first w a q (eqb q r) refl;
        falls_have = λ q lt. falls_lower w a q lt (is_minus (option_of os signs (reaction_at net q).0)) (ap (λ (s : List Sign). is_minus (option_of os s (reaction_at net q).0)) (sym e));
        tops_have = subst (λ (s : List Sign). AllZip HasKind (row_kinds (length os) s) (map (above net r w) os)) (signs_are w ∙ sym e) (rows_have (length os) (map (above net r w) os) (length-map os (above net r w)));
      }

  pub feasible_by : (w : List ℤ) → IsAgainst net r w → (p : List Sign) × IsFull (slopes net r) p × IsFeasible (slopes net r) p
  feasible_by w a =
      let os = others net r in
      let signs : List Sign = map (λ o. sign (above net r w o)) os in
      let p : List Sign = Minus ∷ signs in (
        p,
        omega (arith, length-map os (λ o. sign (above net r w o))),
        record {
          opened = refl;
          part_a = (w, solution_by net r (rise_kind net r p) (fall_kind net r p) (row_kinds (length os) signs) w (against_has w a signs refl));
          part_b = (w, free_solution (slope_matrix net r) w a.long);
        },
      )

  -- ---- and a full feasible prefix gives such a slope

  -- the options are the signs of the heights
  options_are : (p : List Sign) (x : List ℤ) → length p ≡ length (others net r) → AllZip HasKind (row_kinds (length (others net r)) p) (map (above net r x) (others net r)) → p ≡ map (λ o. sign (above net r x o)) (others net r)
  options_are p x e h = row_signs_are (length (others net r)) p (map (above net r x) (others net r)) e h ∙ signs_are x

  -- the option of a reactant that is not that of r
  option_at : (p : List Sign) (x : List ℤ) → p ≡ map (λ o. sign (above net r x o)) (others net r) → (q : ℕ) → q < length net.reactions → (reaction_at net q).0 ≢ (reaction_at net r).0 → option_of (others net r) p (reaction_at net q).0 ≡ sign (above net r x (reaction_at net q).0)
  option_at p x e q lt ne = ap (λ (s : List Sign). option_of (others net r) s (reaction_at net q).0) e ∙ option_is (others net r) (above net r x) (reaction_at net q).0 (in_others net n r q lt ne)

  apart : (w : List ℤ) → (l : HasLowerRise net w r) → (reaction_at net l.q).0 ≢ (reaction_at net r).0
  apart w l e = omega (arith, ints, l.lower, ap (height net w) e)

  minus_against : (p : List Sign) (x : List ℤ) → length p ≡ length (others net r) → SolvesA (slopes net r) (Minus ∷ p) x → IsAgainst net r x
  minus_against p x e s =
      let os = others net r in
      let h = has_by net r (rise_kind net r (Minus ∷ p)) (fall_kind net r (Minus ∷ p)) (row_kinds (length os) p) x s in
      record {
        long = h.long;
        falls = subst (λ (b : Bool). HasKind (cond b Neg Free) (rise net x r)) (eq-eqb r r refl) (h.rises_have r r_lt);
        none = λ l.
            let c = (reaction_at net l.q).0 in
            let at = option_at p x (options_are p x e h.tops_have) l.q l.inside (apart x l) in
            let low : above net r x c <ℤ pos 0 = omega (arith, ints, l.lower, above_is net n r c x r_lt (joins_at net n l.q l.inside).1) in
            let is : is_minus (option_of os p c) ≡ true = ap is_minus at ∙ below_minus (above net r x c) low in
            let up : pos 0 ≤ℤ neg_ℤ (rise net x l.q) = subst (λ (b : Bool). HasKind (at_least_zero_if b) (neg_ℤ (rise net x l.q))) is (h.falls_have l.q l.inside) in
            omega (arith, ints, up, l.rises);
      }

  height-neg : (x : List ℤ) (c : ℕ) → height net (map neg_ℤ x) c ≡ neg_ℤ (height net x c)
  height-neg x c = dot-neg (complex_at net c) x

  -- what rises at least by 0 does not fall
  no_fall : (b c : Bool) (v : ℤ) → c ≡ true → HasKind (cond b Pos (at_least_zero_if c)) v → pos 0 ≤ℤ v
  no_fall true c v e k = omega (arith, ints, k)
  no_fall false c v e k = subst (λ (t : Bool). HasKind (at_least_zero_if t) v) e k

  plus_against : (p : List Sign) (x : List ℤ) → length p ≡ length (others net r) → SolvesA (slopes net r) (Plus ∷ p) x → IsAgainst net r (map neg_ℤ x)
  plus_against p x e s =
      let os = others net r in
      let w : List ℤ = map neg_ℤ x in
      let h = has_by net r (rise_kind net r (Plus ∷ p)) (fall_kind net r (Plus ∷ p)) (row_kinds (length os) p) x s in
      let up : pos 1 ≤ℤ rise net x r = subst (λ (b : Bool). HasKind (cond b Pos (at_least_zero_if (is_plus (option_of os p (reaction_at net r).0)))) (rise net x r)) (eq-eqb r r refl) (h.rises_have r r_lt) in
      record {
        long = length-neg x ∙ h.long;
        falls = omega (arith, ints, up, rise-neg net x r);
        none = λ l.
            let c = (reaction_at net l.q).0 in
            let at = option_at p x (options_are p x e h.tops_have) l.q l.inside (apart w l) in
            let high : pos 0 <ℤ above net r x c = omega (arith, ints, l.lower, height-neg x c, height-neg x (reaction_at net r).0, above_is net n r c x r_lt (joins_at net n l.q l.inside).1) in
            let is : is_plus (option_of os p c) ≡ true = ap is_plus at ∙ above_plus (above net r x c) high in
            let least : pos 0 ≤ℤ rise net x l.q = no_fall (eqb l.q r) (is_plus (option_of os p c)) (rise net x l.q) is (h.rises_have l.q l.inside) in
            omega (arith, ints, least, l.rises, rise-neg net x l.q);
      }

  pub against_named : (p : List Sign) (x : List ℤ) → IsFull (slopes net r) p → (slopes net r).closed p ≡ false → SolvesA (slopes net r) p x → IsAgainst net r (slope_by p x)
  against_named [] x f o s = absurd (omega (arith, f))
  against_named (Zero ∷ p) x f o s = absurd (false≢true (sym o))
  against_named (Plus ∷ p) x f o s = plus_against p x (omega (arith, f)) s
  against_named (Minus ∷ p) x f o s = minus_against p x (omega (arith, f)) s

pub slopes_feasible : (net : Net) (r : ℕ) → IsNetwork net → r < length net.reactions → AgainstIfFeasible net r
slopes_feasible net r n lt = record {
  feasible = feasible_by net n r lt;
  named = against_named net n r lt;
  against = λ p f s. (slope_by p s.part_a.0, against_named net n r lt p s.part_a.0 f s.opened s.part_a.1);
}

-- ---- whether a slope rises along a reaction that begins lower

lower_below : (net : Net) (w : List ℤ) (r n : ℕ) → n ≤ length net.reactions
    → HasLowerRise net w r ⊎ ((q : ℕ) → q < n → pos 1 ≤ℤ rise net w q → height net w (reaction_at net q).0 <ℤ height net w (reaction_at net r).0 → ⊥)
lower_below net w r zero le = inr (λ q lt u l. omega (arith, lt))
lower_below net w r (suc n) le = elim (lower_below net w r n (omega (arith, le))) [
  | inl h ↦ inl h
  | inr none ↦
      let low = height net w (reaction_at net n).0 in
      let high = height net w (reaction_at net r).0 in
      by_lt_z (pos 0) (rise net w n)
      (λ up. by_lt_z low high
      (λ l. inl (record { q = n; inside = omega (arith, le); rises = omega (arith, ints, up); lower = l }))
      (λ no. inr (λ q lt u l. elim (below_or q n lt) [
        | inl b ↦ none q b u l
        | inr e ↦ omega (arith, ints, no, l, ap (λ (k : ℕ). height net w (reaction_at net k).0) e)
      ])))
      (λ down. inr (λ q lt u l. elim (below_or q n lt) [
        | inl b ↦ none q b u l
        | inr e ↦ omega (arith, ints, down, u, ap (rise net w) e)
      ]))
]

pub lower_or : (net : Net) (w : List ℤ) (r : ℕ) → HasLowerRise net w r ⊎ (HasLowerRise net w r → ⊥)
lower_or net w r = elim (lower_below net w r (length net.reactions) (omega arith)) [
  | inl h ↦ inl h
  | inr none ↦ inr (λ h. none h.q h.inside h.rises h.lower)
]

pub none_against : (net : Net) (r : ℕ) → ((w : List ℤ) → IsAgainst net r w → ⊥) → IsEndotacticAt net r
none_against net r none w long falls = elim (lower_or net w r) [
  | inl h ↦ h
  | inr not_one ↦ absurd (none w (record { long = long; falls = falls; none = not_one }))
]

pub valid_trees_show : (net : Net) (r : ℕ) (tree : Plan) → IsNetwork net → r < length net.reactions → IsValid (slopes net r) [] tree → IsEndotacticAt net r
valid_trees_show net r tree n lt v = none_against net r (λ w a.
    let f = feasible_by net n r lt w a in
    leaves_nothing (slopes net r) (slopes_are_steady net r) tree [] f.0 v f.1 f.2)

pub slopes_show_not : (net : Net) (r : ℕ) (w : List ℤ) → IsAgainst net r w → IsEndotacticAt net r → ⊥
slopes_show_not net r w a e = a.none (e w a.long a.falls)

pub feasible_decide : FeasiblePrefixesDecideEndotactic
feasible_decide net n = (
  λ e r p lt full feasible. let a = (slopes_feasible net r n lt).against p full feasible in slopes_show_not net r a.0 a.1 (e r lt),
  λ none r lt. none_against net r (λ w a. let f = (slopes_feasible net r n lt).feasible w a in none r f.0 lt f.1 f.2),
)
