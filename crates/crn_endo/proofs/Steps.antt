-- What one option more requires, coordinate by coordinate.
use Rattle.crn_endo.proofs.Prelude.{◌≡◌, ◌≢◌, ℕ, suc, ◌+◌, ◌-◌, ◌<◌, inl, inr, List, [], ◌∷◌, ◌++◌, length, map, replicate, get_or, Bool, false, cond, refl, sym, ap, subst, ◌∙◌, arith, ◌==◌, not, range_with_len, false≢true, eq-eqb, ne_eqb, get_or_append_left, get_or-append_right, get_or-replicate, length-append, length-replicate, get_or-map-range_with_len, length-map-range_with_len, Sign, Zero, Plus, Minus, Kind, Pos, Free, is_plus, kind_of_sign, row_kinds, width, IsIn, Net, kind_at, at_in, eq_or, filter_from, lt_or, Bits, Asked, AskKindsBy, IsPut, asked_kind, bit_of, kind_in, weakened, put_here, put_other, reaction_at, at_least_zero_if, fall_kind, is_reactant, later, option_of, others, reactants, rise_kind, slope_kinds, slope_matrix, AreRaised, AskFirmly, ShowsWeak, firm_kind, above_ascending, above_in, any_default, filter_ascending, range_ascending, row_chosen, IsAscending, row_kept}

-- ---- options

last_option : (p : List Sign) (o : Sign) → get_or (p ++ o ∷ []) (length p) Zero ≡ o
last_option [] o = refl
last_option (a ∷ p) o = last_option p o

pub option_none : (os : List ℕ) (c : ℕ) → option_of os [] c ≡ Zero
option_none [] c = refl
option_none (o ∷ os) c = refl

-- the option of the complex that is chosen last, which has none before
option_last : (os : List ℕ) (p : List Sign) (s : Sign) (c : ℕ) → IsAscending os → length p < length os → c ≡ get_or os (length p) c → (option_of os (p ++ s ∷ []) c ≡ s) × (option_of os p c ≡ Zero)
option_last [] p s c d lt e = absurd (omega (arith, lt))
option_last (o ∷ os) [] s c d lt e = (ap (λ (b : Bool). cond b s (option_of os [] c)) (eq-eqb o c (sym e)), refl)
option_last (o ∷ os) (t ∷ p) s c d lt e =
    let less : length p < length os = omega (arith, lt) in
    let in_rest : IsIn c os = subst (λ (x : ℕ). IsIn x os) (sym e) (at_in os (length p) c less) in
    let other : (o == c) ≡ false = ne_eqb o c (λ same. omega (arith, above_in o os d c in_rest, same)) in
    let rest = option_last os p s c (above_ascending o os d) less e in
    (ap (λ (b : Bool). cond b t (option_of os (p ++ s ∷ []) c)) other ∙ rest.0, ap (λ (b : Bool). cond b t (option_of os p c)) other ∙ rest.1)

-- the option of another complex
option_kept : (os : List ℕ) (p : List Sign) (s : Sign) (c : ℕ) → length p < length os → c ≢ get_or os (length p) c → option_of os (p ++ s ∷ []) c ≡ option_of os p c
option_kept [] p s c lt ne = refl
option_kept (o ∷ os) [] s c lt ne = ap (λ (b : Bool). cond b s (option_of os [] c)) (ne_eqb o c (λ e. ne (sym e))) ∙ option_none os c
option_kept (o ∷ os) (t ∷ p) s c lt ne = ap (λ (x : Sign). cond (o == c) t x) (option_kept os p s c (omega (arith, lt)) ne)

others_ascending : (net : Net) (r : ℕ) → IsAscending (others net r)
others_ascending net r = filter_ascending (λ c. not (c == (reaction_at net r).0)) (reactants net) (filter_ascending (is_reactant net) (range_with_len 0 (length net.complexes)) (range_ascending 0 (length net.complexes)))

-- a reaction from a further complex is another one
goes_apart : (net : Net) (r q c i : ℕ) → i < length (others net r) → c ≡ get_or (others net r) i c → (reaction_at net q).0 ≡ c → (q == r) ≡ false
goes_apart net r q c i lt e y = ne_eqb q r (λ same.
    let inside : IsIn c (others net r) = subst (λ (x : ℕ). IsIn x (others net r)) (sym e) (at_in (others net r) i c lt) in
    let passes = (filter_from (λ d. not (d == (reaction_at net r).0)) (reactants net) c inside).1 in
    let own : c ≡ (reaction_at net r).0 = sym y ∙ ap (λ (x : ℕ). (reaction_at net x).0) same in
    false≢true (sym (ap not (eq-eqb c (reaction_at net r).0 own)) ∙ passes))

-- ---- kinds

pub firm_sign : (s : Sign) → firm_kind (kind_of_sign s) ≡ kind_of_sign s
firm_sign Zero = refl
firm_sign Plus = refl
firm_sign Minus = refl

-- the kind of a rise along another reaction, by the option of its reactant
rise_by : (net : Net) (r q : ℕ) (o : Sign) (p : List Sign) → (q == r) ≡ false → option_of (others net r) p (reaction_at net q).0 ≡ o → rise_kind net r (Plus ∷ p) q ≡ at_least_zero_if (is_plus o)
rise_by net r q o p apart is =
    ap (λ (b : Bool). cond b (kind_of_sign Plus) (at_least_zero_if (is_plus (option_of (others net r) p (reaction_at net q).0)))) apart
    ∙ ap (λ (x : Sign). at_least_zero_if (is_plus x)) is

rise_kept : (net : Net) (r q : ℕ) (p p' : List Sign) → option_of (others net r) p' (reaction_at net q).0 ≡ option_of (others net r) p (reaction_at net q).0 → rise_kind net r (Plus ∷ p') q ≡ rise_kind net r (Plus ∷ p) q
rise_kept net r q p p' e = ap (λ (x : Sign). cond (q == r) (kind_of_sign Plus) (at_least_zero_if (is_plus x))) e

row_last : (n : ℕ) (p : List Sign) (s : Sign) → length p < n → kind_at (row_kinds n (p ++ s ∷ [])) (length p) ≡ kind_of_sign s
row_last n p s lt = sym (row_chosen n (length p) (p ++ s ∷ []) lt (omega (arith, length-append p (s ∷ [])))) ∙ ap kind_of_sign (last_option p s)

-- ---- coordinates

-- the kinds of the rises and of what follows
abbrev from_rises : Net → ℕ → List Sign → List Kind
from_rises net r p = map (rise_kind net r p) (range_with_len 0 (length net.reactions)) ++ (map (fall_kind net r p) (range_with_len 0 (length net.reactions)) ++ row_kinds (length (others net r)) (later p))

abbrev from_falls : Net → ℕ → List Sign → List Kind
from_falls net r p = map (fall_kind net r p) (range_with_len 0 (length net.reactions)) ++ row_kinds (length (others net r)) (later p)

pub free_before : (net : Net) (r : ℕ) (p : List Sign) (k : ℕ) → k < length net.names → kind_at (slope_kinds net r p) k ≡ Free
free_before net r p k lt =
    get_or_append_left (replicate (length net.names) Free) (from_rises net r p) Free k (omega (arith, lt, length-replicate (length net.names) Free))
    ∙ get_or-replicate (length net.names) k Free Free lt

past_names : (net : Net) (r : ℕ) (p : List Sign) (k row : ℕ) → k ≡ length net.names + row → kind_at (slope_kinds net r p) k ≡ kind_at (from_rises net r p) row
past_names net r p k row e =
    get_or-append_right (replicate (length net.names) Free) (from_rises net r p) (length net.names) k Free (length-replicate (length net.names) Free) (omega (arith, e))
    ∙ ap (kind_at (from_rises net r p)) (let d : k - length net.names ≡ row = omega (arith, e) in d)

past_rises : (net : Net) (r : ℕ) (p : List Sign) (k row : ℕ) → k ≡ length net.names + length net.reactions + row → kind_at (slope_kinds net r p) k ≡ kind_at (from_falls net r p) row
past_rises net r p k row e =
    let n = length net.reactions in
    past_names net r p k (n + row) (omega (arith, e))
    ∙ get_or-append_right (map (rise_kind net r p) (range_with_len 0 n)) (from_falls net r p) n (n + row) Free (length-map-range_with_len (rise_kind net r p) 0 n) (omega arith)
    ∙ ap (kind_at (from_falls net r p)) (let d : n + row - n ≡ row = omega arith in d)

pub rise_at : (net : Net) (r : ℕ) (p : List Sign) (k q : ℕ) → k ≡ length net.names + q → q < length net.reactions → kind_at (slope_kinds net r p) k ≡ rise_kind net r p q
rise_at net r p k q e lt =
    let n = length net.reactions in
    past_names net r p k q e
    ∙ get_or_append_left (map (rise_kind net r p) (range_with_len 0 n)) (from_falls net r p) Free q (omega (arith, lt, length-map-range_with_len (rise_kind net r p) 0 n))
    ∙ get_or-map-range_with_len (rise_kind net r p) 0 n q q Free lt (omega arith)

pub fall_at : (net : Net) (r : ℕ) (p : List Sign) (k q : ℕ) → k ≡ length net.names + length net.reactions + q → q < length net.reactions → kind_at (slope_kinds net r p) k ≡ fall_kind net r p q
fall_at net r p k q e lt =
    let n = length net.reactions in
    past_rises net r p k q e
    ∙ get_or_append_left (map (fall_kind net r p) (range_with_len 0 n)) (row_kinds (length (others net r)) (later p)) Free q (omega (arith, lt, length-map-range_with_len (fall_kind net r p) 0 n))
    ∙ get_or-map-range_with_len (fall_kind net r p) 0 n q q Free lt (omega arith)

pub height_at : (net : Net) (r : ℕ) (p : List Sign) (k j : ℕ) → k ≡ length net.names + length net.reactions + length net.reactions + j → kind_at (slope_kinds net r p) k ≡ kind_at (row_kinds (length (others net r)) (later p)) j
height_at net r p k j e =
    let n = length net.reactions in
    past_rises net r p k (n + j) (omega (arith, e))
    ∙ get_or-append_right (map (fall_kind net r p) (range_with_len 0 n)) (row_kinds (length (others net r)) (later p)) n (n + j) Free (length-map-range_with_len (fall_kind net r p) 0 n) (omega arith)
    ∙ ap (kind_at (row_kinds (length (others net r)) (later p))) (let d : n + j - n ≡ j = omega arith in d)

-- ---- words

-- one reaction more, from the complex or not
pub raised_more : (net : Net) (c n h : ℕ) (x : Asked) (old mid new : List Bits) → h ≡ length net.names + n → AreRaised net c n old mid → (reaction_at net n).0 ≡ c → asked_kind x ≡ Pos → IsPut mid h x new → AreRaised net c (n + 1) old new
raised_more net c n h x old mid new at m from is put = record {
  count = put.count ∙ m.count;
  here = λ q lt y. elim (eq_or q n) as (λ _. kind_in new (length net.names + q) ≡ Pos) [
    | inl e ↦ ap (kind_in new) (let d : length net.names + q ≡ h = omega (arith, e, at) in d) ∙ put_here mid h x new put ∙ is
    | inr ne ↦ put_other mid h x new put (length net.names + q) (λ d. ne (omega (arith, d, at))) ∙ m.here q (omega (arith, lt, ne)) y
  ];
  others = λ k out. put_other mid h x new put k (λ d. out n (omega arith) from (d ∙ at)) ∙ m.others k (λ q lt. out q (omega (arith, lt)));
}

pub raised_past : (net : Net) (c n : ℕ) (old new : List Bits) → AreRaised net c n old new → (reaction_at net n).0 ≢ c → AreRaised net c (n + 1) old new
raised_past net c n old new h from = record {
  count = h.count;
  here = λ q lt y. elim (eq_or q n) as (λ _. kind_in new (length net.names + q) ≡ Pos) [
    | inl e ↦ absurd (from (ap (λ (i : ℕ). (reaction_at net i).0) (sym e) ∙ y))
    | inr ne ↦ h.here q (omega (arith, lt, ne)) y
  ];
  others = λ k out. h.others k (λ q lt. out q (omega (arith, lt)));
}

-- the words after the option of complex c, after a first option that is plus
pub next_asked : (net : Net) (r : ℕ) (s : Sign) (p : List Sign) (c h : ℕ) (x : Asked) (old mid new : List Bits) → length p < length (others net r) → c ≡ get_or (others net r) (length p) c → h ≡ length net.names + length net.reactions + length net.reactions + length p
    → asked_kind x ≡ kind_of_sign s → IsPut old h x mid → length new ≡ length mid
    → ((k : ℕ) → ((q : ℕ) → q < length net.reactions → (reaction_at net q).0 ≡ c → k ≢ length net.names + q) → kind_in new k ≡ kind_in mid k)
    → ((q : ℕ) → q < length net.reactions → (reaction_at net q).0 ≡ c → kind_in mid (length net.names + q) ≡ Free → kind_in new (length net.names + q) ≡ firm_kind (at_least_zero_if (is_plus s)))
    → AskFirmly net r (Plus ∷ p) old → AskFirmly net r (Plus ∷ (p ++ s ∷ [])) new
next_asked net r s p c h x old mid new long is at asks put count kept raised given = record { count = count ∙ put.count ∙ given.count; each = each }
  where
    Asks : ℕ → Type 0
    Asks k = kind_in new k ≡ firm_kind (kind_at (slope_kinds net r (Plus ∷ (p ++ s ∷ []))) k)

    -- a coordinate whose kind is as before
    same : (k : ℕ) → k < width (slope_matrix net r) → k ≢ h → ((q : ℕ) → q < length net.reactions → (reaction_at net q).0 ≡ c → k ≢ length net.names + q)
        → kind_at (slope_kinds net r (Plus ∷ p)) k ≡ kind_at (slope_kinds net r (Plus ∷ (p ++ s ∷ []))) k → Asks k
    same k lt ne rise e = kept k rise ∙ put_other old h x mid put k ne ∙ given.each k lt ∙ ap firm_kind e

    rise : (k q : ℕ) → k < width (slope_matrix net r) → k ≡ length net.names + q → q < length net.reactions → Asks k
    rise k q lt e less =
        let os = others net r in
        let y = (reaction_at net q).0 in
        let before = rise_at net r (Plus ∷ p) k q e less in
        let after = rise_at net r (Plus ∷ (p ++ s ∷ [])) k q e less in
        let apart : k ≢ h = λ d. omega (arith, d, at, e, less) in
        elim (eq_or y c) as (λ _. Asks k) [
          | inl from ↦
              let o = option_last os p s y (others_ascending net r) long (from ∙ is ∙ any_default c y os (length p) long) in
              let other = goes_apart net r q c (length p) long is from in
              let free : kind_in mid k ≡ Free = put_other old h x mid put k apart ∙ given.each k lt ∙ ap firm_kind (before ∙ rise_by net r q Zero p other o.1) in
              ap (kind_in new) e ∙ raised q less from (ap (kind_in mid) (sym e) ∙ free) ∙ ap firm_kind (sym (rise_by net r q s (p ++ s ∷ []) other o.0) ∙ sym after)
          | inr ne ↦
              let there : y ≢ get_or os (length p) y = λ d. ne (d ∙ any_default y c os (length p) long ∙ sym is) in
              same k lt apart (λ i lt' z d. let j : i ≡ q = omega (arith, d, e) in ne (ap (λ (t : ℕ). (reaction_at net t).0) (sym j) ∙ z))
              (before ∙ sym (rise_kept net r q p (p ++ s ∷ []) (option_kept os p s y long there)) ∙ sym after)
        ]

    height : (k j : ℕ) → k < width (slope_matrix net r) → k ≡ length net.names + length net.reactions + length net.reactions + j → Asks k
    height k j lt e =
        let n = length (others net r) in
        let none : (q : ℕ) → q < length net.reactions → (reaction_at net q).0 ≡ c → k ≢ length net.names + q = λ q less z d. omega (arith, d, e, less) in
        let before = height_at net r (Plus ∷ p) k j e in
        let after = height_at net r (Plus ∷ (p ++ s ∷ [])) k j e in
        elim (eq_or j (length p)) as (λ _. Asks k) [
          | inl last ↦
              let here : k ≡ h = omega (arith, e, last, at) in
              kept k none ∙ ap (kind_in mid) here ∙ put_here old h x mid put ∙ asks ∙ sym (firm_sign s)
              ∙ ap firm_kind (sym (row_last n p s long) ∙ ap (kind_at (row_kinds n (p ++ s ∷ []))) (sym last) ∙ sym after)
          | inr ne ↦ same k lt (λ d. ne (omega (arith, d, e, at))) none (before ∙ sym (row_kept n p s j ne) ∙ sym after)
        ]

    each : (k : ℕ) → k < width (slope_matrix net r) → Asks k
    each k lt =
        let names = length net.names in
        let n = length net.reactions in
        elim (lt_or k names) as (λ _. Asks k) [
          | inl less ↦ same k lt (λ d. omega (arith, d, at, less)) (λ q l z d. omega (arith, d, less)) (free_before net r (Plus ∷ p) k less ∙ sym (free_before net r (Plus ∷ (p ++ s ∷ [])) k less))
          | inr le ↦ elim (lt_or (k - names) n) as (λ _. Asks k) [
            | inl less ↦ rise k (k - names) lt (omega (arith, le)) less
            | inr past ↦ elim (lt_or (k - names - n) n) as (λ _. Asks k) [
              | inl less ↦
                  let e : k ≡ names + n + (k - names - n) = omega (arith, le, past) in
                  same k lt (λ d. omega (arith, d, at, less, past, le)) (λ q l z d. omega (arith, d, l, past, le))
                  (fall_at net r (Plus ∷ p) k (k - names - n) e less ∙ sym (fall_at net r (Plus ∷ (p ++ s ∷ [])) k (k - names - n) e less))
              | inr far ↦ height k (k - names - n - n) lt (omega (arith, le, past, far))
            ]
          ]
        ]

-- an option that is plus
pub option_plus : (net : Net) (r : ℕ) (p : List Sign) (c h : ℕ) (x : Asked) (old mid new : List Bits) → length p < length (others net r) → c ≡ get_or (others net r) (length p) c → h ≡ length net.names + length net.reactions + length net.reactions + length p
    → asked_kind x ≡ Pos → IsPut old h x mid → AreRaised net c (length net.reactions) mid new → AskFirmly net r (Plus ∷ p) old → AskFirmly net r (Plus ∷ (p ++ Plus ∷ [])) new
option_plus net r p c h x old mid new long is at asks put m given = next_asked net r Plus p c h x old mid new long is at asks put m.count (λ k out. m.others k out) (λ q lt y free. m.here q lt y) given

-- another option
pub option_still : (net : Net) (r : ℕ) (s : Sign) (p : List Sign) (h : ℕ) (x : Asked) (old mid : List Bits) → firm_kind (at_least_zero_if (is_plus s)) ≡ Free → length p < length (others net r) → h ≡ length net.names + length net.reactions + length net.reactions + length p
    → asked_kind x ≡ kind_of_sign s → IsPut old h x mid → AskFirmly net r (Plus ∷ p) old → AskFirmly net r (Plus ∷ (p ++ s ∷ [])) mid
option_still net r s p h x old mid none long at asks put given =
    let os = others net r in
    let c = get_or os (length p) 0 in
    next_asked net r s p c h x old mid mid long (any_default 0 c os (length p) long) at asks put refl (λ k out. refl) (λ q lt y free. free ∙ sym none) given

-- ---- prefixes

-- a prefix of more options than one that begins with plus, by the prefix without its last option
pub record BeginsWithPlus (p q : List Sign) (o : Sign) : Type 0 where
  pub rest : List Sign
  pub is : p ≡ Plus ∷ rest
  pub long : length rest ≡ length q - 1 - 1
  pub last : get_or q (length q - 1) Zero ≡ o

pub plus_first : (p q : List Sign) (o : Sign) → q ≡ p ++ o ∷ [] → length q - 1 ≢ 0 → get_or q 0 Zero ≡ Plus → BeginsWithPlus p q o
plus_first [] q o e ne first = absurd (ne (omega (arith, ap (λ (l : List Sign). length l) e)))
plus_first (a ∷ p) q o e ne first =
    let long : length q ≡ suc (length p) + 1 = ap (λ (l : List Sign). length l) e ∙ (let d : suc (length (p ++ o ∷ [])) ≡ suc (length p) + 1 = omega (arith, length-append p (o ∷ [])) in d) in
    record {
      rest = p;
      is = ap (λ (x : Sign). x ∷ p) (sym (ap (λ (l : List Sign). get_or l 0 Zero) e) ∙ first);
      long = omega (arith, long);
      last = ap (λ (l : List Sign). get_or l (length q - 1) Zero) e ∙ ap (λ (i : ℕ). get_or (a ∷ (p ++ o ∷ [])) i Zero) (let d : length q - 1 ≡ suc (length p) = omega (arith, long) in d) ∙ last_option p o;
    }

-- the words require what they do with those of the weak coordinates
pub asks_by : (net : Net) (r : ℕ) (p : List Sign) (weak : List ℕ) (words : List Bits) → ShowsWeak net r weak → AskFirmly net r p words → AskKindsBy (slope_matrix net r) weak (slope_kinds net r p) words
asks_by net r p weak words shows h = record {
  count = h.count;
  each = λ k lt. ap (λ (t : Kind). weakened t (bit_of weak k)) (h.each k lt) ∙ shows p k lt;
}
