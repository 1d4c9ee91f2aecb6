-- One step of the builder over plain tables: what it makes is a network as far as it is built.
use Rattle.crn_net.proofs.Prelude.{◌≡◌, ◌⊎◌, ℕ, ◌<◌, ◌≤◌, ◌+◌, List, [], ◌++◌, length, get_or, take, map, refl, sym, ap, subst, ◌∙◌, append_assoc, inl, inr, arith, ℤ, pos, ◌≤ℤ◌, AllByRecursion, bytes_eq, bytes_eq-Decides, cases_lt, ints, length-map, get_or-map, length-append, get_or-take, get_or_append_left, IsIn, AreDistinct, firsts, Net, IsPartialNetwork, IsName, IsAmount, IsVector, JoinsTwo, Holds, IsHeldBefore, ends, amount_at, amount_in, amounts_in, names_in, Statement, MAX_SPECIES, MAX_REACTIONS, MAX_AMOUNT, net_of, vectors_of, IsRow, AreRows, Puts, PutsBoth, IsRowFor, in_right, in_cases, in_at, at_in, map_in, all_in, all_from, all_map, same_place, firsts_distinct, firsts_from, firsts_has, firsts_prefix, firsts_all, has_name, none_said, appears_in_order, in_order_appears, ends_below, positive_some}
use Rattle.crn_net.proofs.Rows.{row_length, row_with_zeros, puts_place, puts_all, puts_distinct}
use Rattle.crn_net.proofs.Growth.{Ready, Wider, rows_distinct, vectors_distinct, both_keep, left_found, right_found}
use Rattle.crn_net.proofs.Whole.{Covers, RowPlaces, covers_both, amounts_with_zeros, amounts_said}

-- what a statement's sides have: names, each with a number of at least 1, up to the limit
pub record IsSaid (s : Statement) : Type 0 where
  pub left : (name : List ℕ) → IsIn name (map (λ t. t.0) s.0) → IsName name × (1 ≤ amount_in s.0 name)
  pub right : (name : List ℕ) → IsIn name (map (λ t. t.0) s.1) → IsName name × (1 ≤ amount_in s.1 name)
  pub left_most : (name : List ℕ) → amount_in s.0 name ≤ MAX_AMOUNT
  pub right_most : (name : List ℕ) → amount_in s.1 name ≤ MAX_AMOUNT

-- the tables before and after the statement s, whose reaction goes from y to z
pub record Step : Type 0 where
  pub names : List (List ℕ)
  pub rows : List (List ℤ)
  pub reactions : List (ℕ × ℕ)
  pub s : Statement
  pub names' : List (List ℕ)
  pub rows' : List (List ℤ)
  pub reactions' : List (ℕ × ℕ)
  pub y : ℕ
  pub z : ℕ
  pub ready : Ready names rows reactions
  pub names_are : names' ≡ firsts bytes_eq (names ++ names_in s)
  pub most : length names' ≤ MAX_SPECIES
  pub said : IsSaid s
  pub both : PutsBoth names' s rows y z rows'
  pub puts : Puts reactions (y, z) reactions'
  pub few : length reactions' ≤ MAX_REACTIONS
  pub apart : amounts_in names' s.0 ≡ amounts_in names' s.1 → ⊥

abbrev pub old_net : Step → Net
old_net t = net_of t.names t.rows t.reactions

abbrev pub new_net : Step → Net
new_net t = net_of t.names' t.rows' t.reactions'

-- ---- names

pub names_begin : (names names' more : List (List ℕ)) → AreDistinct names → names' ≡ firsts bytes_eq (names ++ more) → (rest : List (List ℕ)) × (names' ≡ names ++ rest)
names_begin names names' more d e =
    let f = firsts_prefix bytes_eq names more in
    (f.0, e ∙ f.1 ∙ ap (λ (u : List (List ℕ)). u ++ f.0) (firsts_all bytes_eq bytes_eq-Decides names d))

pub wider_names : (names names' more : List (List ℕ)) → AreDistinct names → names' ≡ firsts bytes_eq (names ++ more) → length names' ≤ MAX_SPECIES → Wider names names'
wider_names names names' more d e le = let f = names_begin names names' more d e in let l = ap length f.1 in let k = length-append names f.0 in record { least = omega (arith, l, k); most = le }

pub wide : (t : Step) → Wider t.names t.names'
wide t = wider_names t.names t.names' (names_in t.s) t.ready.network.names t.names_are t.most

names_apart : (t : Step) → AreDistinct t.names'
names_apart t = subst AreDistinct (sym t.names_are) (firsts_distinct bytes_eq bytes_eq-Decides (t.names ++ names_in t.s))

-- a name of a prefix is not in the rest
beyond : (names rest : List (List ℕ)) (k : ℕ) → AreDistinct (names ++ rest) → length names ≤ k → k < length (names ++ rest) → IsIn (get_or (names ++ rest) k []) names → ⊥
beyond names rest k d le lt i =
    let p = in_at (get_or (names ++ rest) k []) names [] i in
    let at : get_or (names ++ rest) p.0 [] ≡ get_or (names ++ rest) k [] = get_or_append_left names rest [] p.0 p.1 ∙ p.2 in
    let long = length-append names rest in
    let same = same_place (names ++ rest) p.0 k [] d (let q = p.1 in omega (arith, long, q)) lt at in
    let q = p.1 in absurd (omega (arith, same, q))

not_old : (t : Step) (k : ℕ) → length t.names ≤ k → k < length t.names' → IsIn (get_or t.names' k []) t.names → ⊥
not_old t k le lt i =
    let f = names_begin t.names t.names' (names_in t.s) t.ready.network.names t.names_are in
    let P : List (List ℕ) → Type 0 = λ u. AreDistinct u × (k < length u) × IsIn (get_or u k []) t.names in
    let p = subst P f.1 (names_apart t, lt, i) in
    beyond t.names f.0 k p.0 le p.1 p.2

-- a new name is a name of the left or of the right side
fresh : (t : Step) (k : ℕ) → length t.names ≤ k → k < length t.names' → IsIn (get_or t.names' k []) (map (λ u. u.0) t.s.0) ⊎ IsIn (get_or t.names' k []) (map (λ u. u.0) t.s.1)
fresh t k le lt =
    let x : List ℕ = get_or t.names' k [] in
    let there : IsIn x t.names' = at_in t.names' k [] lt in
    let whole : IsIn x (t.names ++ names_in t.s) = firsts_from bytes_eq (t.names ++ names_in t.s) x (subst (λ (u : List (List ℕ)). IsIn x u) t.names_are there) in
    elim (in_cases x t.names (names_in t.s) whole) [ inl a ↦ absurd (not_old t k le lt a) | inr b ↦ in_cases x (map (λ u. u.0) t.s.0) (map (λ u. u.0) t.s.1) b ]

-- of the new names, those of the left side come first
left_first : (t : Step) (k m : ℕ) → k < m → m < length t.names' → length t.names ≤ k → IsIn (get_or t.names' m []) (map (λ u. u.0) t.s.0) → IsIn (get_or t.names' k []) (map (λ u. u.0) t.s.0)
left_first t k m km mn nk i =
    let l : List (List ℕ) = map (λ u. u.0) t.s.0 in
    let r : List (List ℕ) = map (λ u. u.0) t.s.1 in
    let first : List (List ℕ) = firsts bytes_eq (t.names ++ l) in
    let f = firsts_prefix bytes_eq (t.names ++ l) r in
    let is : t.names' ≡ first ++ f.0 = t.names_are ∙ ap (firsts bytes_eq) (sym (append_assoc t.names l r)) ∙ f.1 in
    let x : List ℕ = get_or t.names' m [] in
    let P : List (List ℕ) → Type 0 = λ u. AreDistinct u × (m < length u) × (get_or u m [] ≡ x) in
    let p = subst P is (names_apart t, mn, refl) in
    let here : IsIn x first = firsts_has bytes_eq bytes_eq-Decides (t.names ++ l) x (in_right x t.names l i) in
    let early : m < length first = elim (cases_lt m (length first)) [
      | inl lt ↦ lt
      | inr ge ↦ absurd (beyond first f.0 m p.0 ge p.1 (subst (λ (u : List ℕ). IsIn u first) (sym p.2) here))
    ] in
    let at : get_or t.names' k [] ≡ get_or first k [] = ap (λ (u : List (List ℕ)). get_or u k []) is ∙ get_or_append_left first f.0 [] k (omega arith) in
    let k_in : IsIn (get_or t.names' k []) first = subst (λ (u : List ℕ). IsIn u first) (sym at) (at_in first k [] (omega arith)) in
    elim (in_cases (get_or t.names' k []) t.names l (firsts_from bytes_eq (t.names ++ l) (get_or t.names' k []) k_in)) [ inl a ↦ absurd (not_old t k nk (omega arith) a) | inr b ↦ b ]

-- ---- amounts

row_amount : (m : ℕ) (rows : List (List ℤ)) (c k : ℕ) → c < length rows → k < m → get_or (get_or (vectors_of m rows) c []) k (pos 0) ≡ get_or (get_or rows c []) k (pos 0)
row_amount m rows c k lt km = ap (λ (u : List ℤ). get_or u k (pos 0)) (get_or-map (take m) rows c [] [] lt) ∙ get_or-take m (get_or rows c []) k (pos 0) km

amount_stays : (t : Step) (c k : ℕ) → c < length t.rows → k < length t.names → amount_at (new_net t) c k ≡ amount_at (old_net t) c k
amount_stays t c k lt kn =
    let keep = both_keep t.names' t.s t.rows t.y t.z t.rows' c t.both lt in
    let w = wide t in
    let le = w.least in
    row_amount (length t.names') t.rows' c k keep.1 (omega arith) ∙ ap (λ (u : List ℤ). get_or u k (pos 0)) keep.0 ∙ sym (row_amount (length t.names) t.rows c k lt kn)

amount_none : (t : Step) (c k : ℕ) → c < length t.rows → length t.names ≤ k → k < length t.names' → amount_at (new_net t) c k ≡ pos 0
amount_none t c k lt nk km =
    let keep = both_keep t.names' t.s t.rows t.y t.z t.rows' c t.both lt in
    let row = all_in (IsRow (length t.names)) t.rows (get_or t.rows c []) t.ready.padded (at_in t.rows c [] lt) in
    row_amount (length t.names') t.rows' c k keep.1 km ∙ ap (λ (u : List ℤ). get_or u k (pos 0)) keep.0 ∙ row.rest k nk

said_amount : (names : List (List ℕ)) (side : List (List ℕ × ℕ)) (row : List ℤ) (k : ℕ) → IsRowFor names side row → k < length names → get_or row k (pos 0) ≡ pos (amount_in side (get_or names k []))
said_amount names side row k r lt =
    sym (get_or-take (length names) row k (pos 0) lt) ∙ ap (λ (u : List ℤ). get_or u k (pos 0)) r.amounts ∙ get_or-map (λ name. pos (amount_in side name)) names k [] (pos 0) lt

left_amount : (t : Step) (k : ℕ) → k < length t.names' → amount_at (new_net t) t.y k ≡ pos (amount_in t.s.0 (get_or t.names' k []))
left_amount t k lt =
    let l = left_found t.names' t.s t.rows t.y t.z t.rows' t.both in
    row_amount (length t.names') t.rows' t.y k l.1 lt ∙ ap (λ (u : List ℤ). get_or u k (pos 0)) l.0 ∙ said_amount t.names' t.s.0 t.both.left k t.both.left_row lt

right_amount : (t : Step) (k : ℕ) → k < length t.names' → amount_at (new_net t) t.z k ≡ pos (amount_in t.s.1 (get_or t.names' k []))
right_amount t k lt =
    row_amount (length t.names') t.rows' t.z k t.both.right_in lt ∙ ap (λ (u : List ℤ). get_or u k (pos 0)) (right_found t.names' t.s t.rows t.y t.z t.rows' t.both) ∙ said_amount t.names' t.s.1 t.both.right k t.both.right_row lt

positive : (a : ℤ) (n : ℕ) → a ≡ pos n → 1 ≤ n → pos 1 ≤ℤ a
positive a n e le = rw e (omega (arith, ints))

left_holds : (t : Step) (k : ℕ) → k < length t.names' → IsIn (get_or t.names' k []) (map (λ u. u.0) t.s.0) → Holds (new_net t) t.y k
left_holds t k lt i = positive (amount_at (new_net t) t.y k) (amount_in t.s.0 (get_or t.names' k [])) (left_amount t k lt) (t.said.left (get_or t.names' k []) i).1

right_holds : (t : Step) (k : ℕ) → k < length t.names' → IsIn (get_or t.names' k []) (map (λ u. u.0) t.s.1) → Holds (new_net t) t.z k
right_holds t k lt i = positive (amount_at (new_net t) t.z k) (amount_in t.s.1 (get_or t.names' k [])) (right_amount t k lt) (t.said.right (get_or t.names' k []) i).1

left_held : (t : Step) (k : ℕ) → k < length t.names' → Holds (new_net t) t.y k → IsIn (get_or t.names' k []) (map (λ u. u.0) t.s.0)
left_held t k lt h =
    elim (has_name t.s.0 (get_or t.names' k [])) [
      | inl i ↦ i
      | inr none ↦ absurd (positive_some (amount_at (new_net t) t.y k) h (left_amount t k lt ∙ ap pos (none_said t.s.0 (get_or t.names' k []) none)))
    ]

-- ---- places

row_places : (t : Step) → RowPlaces (length t.rows) (length t.both.middle) (length t.rows') t.y t.z
row_places t = record {
  first = puts_place t.rows t.both.middle t.both.left t.y t.both.first t.both.left_in t.both.left_at;
  second = puts_place t.both.middle t.rows' t.both.right t.z t.both.second t.both.right_in t.both.right_at;
}

-- a new place is one of the two
new_place : (before middle after y z b : ℕ) → RowPlaces before middle after y z → before ≤ b → b < after → (b ≡ y) ⊎ (b ≡ z)
new_place before middle after y z b s le lt =
    elim s.first [
      | inl p ↦ elim s.second [ inl q ↦ absurd (let e = p.1 in let f = q.1 in omega (arith, e, f)) | inr q ↦ inr (let e = p.1 in let f = q.1 in let g = q.0 in omega (arith, e, f, g)) ]
      | inr p ↦ elim s.second [
        | inl q ↦ inl (let d = p.0 in let e = p.1 in let f = q.1 in omega (arith, d, e, f))
        | inr q ↦ elim (cases_lt b middle) [ inl less ↦ inl (let d = p.0 in let e = p.1 in omega (arith, d, e)) | inr more ↦ inr (let e = q.0 in let f = q.1 in omega (arith, e, f)) ]
      ]
    ]

-- if the right row is new, the left row is before it
left_before : (before middle after y z : ℕ) → RowPlaces before middle after y z → (y ≡ z → ⊥) → before ≤ z → y < z
left_before before middle after y z s ne le =
    elim s.first [
      | inl p ↦ let d = p.0 in omega (arith, d)
      | inr p ↦ elim (cases_lt y z) [ inl lt ↦ lt | inr ge ↦ absurd (ne (let d = p.0 in omega (arith, d))) ]
    ]

sides_apart : (t : Step) → t.y ≡ t.z → ⊥
sides_apart t e =
    let l = left_found t.names' t.s t.rows t.y t.z t.rows' t.both in
    let same : t.both.left ≡ t.both.right = sym l.0 ∙ ap (λ (k : ℕ). get_or t.rows' k []) e ∙ right_found t.names' t.s t.rows t.y t.z t.rows' t.both in
    t.apart (sym t.both.left_row.amounts ∙ ap (take (length t.names')) same ∙ t.both.right_row.amounts)

-- ---- who holds what

old_count : (t : Step) → length (vectors_of (length t.names) t.rows) ≡ length t.rows
old_count t = length-map t.rows (take (length t.names))

new_count : (t : Step) → length (vectors_of (length t.names') t.rows') ≡ length t.rows'
new_count t = length-map t.rows' (take (length t.names'))

-- an old species is held by an old complex
old_held : (t : Step) (k : ℕ) → k < length t.names → IsHeldBefore (new_net t) (length t.rows) k
old_held t k lt =
    let h = t.ready.network.each_in_a_complex k lt in
    let c = old_count t in
    let in_old : h.0 < length t.rows = let q = h.1 in omega (arith, c, q) in
    (h.0, in_old, subst (λ (u : ℤ). pos 1 ≤ℤ u) (sym (amount_stays t h.0 k in_old lt)) h.2)

each_held : (t : Step) (k : ℕ) → k < length t.names' → IsHeldBefore (new_net t) (length (vectors_of (length t.names') t.rows')) k
each_held t k lt =
    let c = new_count t in
    elim (cases_lt k (length t.names)) [
      | inl old ↦ let h = old_held t k old in let q = (both_keep t.names' t.s t.rows t.y t.z t.rows' h.0 t.both h.1).1 in (h.0, omega (arith, c, q), h.2)
      | inr new ↦ elim (fresh t k new lt) [
        | inl i ↦ let q = (left_found t.names' t.s t.rows t.y t.z t.rows' t.both).1 in (t.y, omega (arith, c, q), left_holds t k lt i)
        | inr i ↦ let q = t.both.right_in in (t.z, omega (arith, c, q), right_holds t k lt i)
      ]
    ]

-- held by an old complex: the order of the old network
order_old : (t : Step) (c s m b : ℕ) → s < m → m < length t.names' → b < c → b < length t.rows → Holds (new_net t) b m → IsHeldBefore (new_net t) c s
order_old t c s m b sm mn bc old h =
    let count = old_count t in
    let m_old : m < length t.names = elim (cases_lt m (length t.names)) [ inl lt ↦ lt | inr ge ↦ absurd (positive_some (amount_at (new_net t) b m) h (amount_none t b m old ge mn)) ] in
    let was : Holds (old_net t) b m = subst (λ (u : ℤ). pos 1 ≤ℤ u) (amount_stays t b m old m_old) h in
    let r = t.ready.network.species_in_order (b + 1) s m (omega (arith, count)) sm m_old (b, omega arith, was) in
    let q = r.1 in
    let r_old : r.0 < length t.rows = omega (arith, q) in
    (r.0, omega (arith, q), subst (λ (u : ℤ). pos 1 ≤ℤ u) (sym (amount_stays t r.0 s r_old (omega arith))) r.2)

order_new : (t : Step) (c s m b : ℕ) → s < m → m < length t.names' → b < c → length t.rows ≤ b → b < length t.rows' → length t.names ≤ s → Holds (new_net t) b m → IsHeldBefore (new_net t) c s
order_new t c s m b sm mn bc new b_in s_new h =
    elim (new_place (length t.rows) (length t.both.middle) (length t.rows') t.y t.z b (row_places t) new b_in) [
      | inl e ↦
          let held : Holds (new_net t) t.y m = subst (λ (k : ℕ). Holds (new_net t) k m) e h in
          let i = left_first t s m sm mn s_new (left_held t m mn held) in
          (t.y, omega (arith, e), left_holds t s (omega arith) i)
      | inr e ↦ elim (fresh t s s_new (omega arith)) [
        | inl i ↦ let lt = left_before (length t.rows) (length t.both.middle) (length t.rows') t.y t.z (row_places t) (sides_apart t) (omega (arith, e)) in (t.y, omega (arith, e, lt), left_holds t s (omega arith) i)
        | inr i ↦ (t.z, omega (arith, e), right_holds t s (omega arith) i)
      ]
    ]

in_order : (t : Step) (c s m : ℕ) → c ≤ length (vectors_of (length t.names') t.rows') → s < m → m < length t.names' → IsHeldBefore (new_net t) c m → IsHeldBefore (new_net t) c s
in_order t c s m cl sm mn h =
    let count = new_count t in
    let bc = h.1 in
    elim (cases_lt h.0 (length t.rows)) [
      | inl old ↦ order_old t c s m h.0 sm mn bc old h.2
      | inr new ↦ elim (cases_lt s (length t.names)) [
        | inl s_old ↦ let r = old_held t s s_old in let q = r.1 in (r.0, omega (arith, q, bc), r.2)
        | inr s_new ↦ order_new t c s m h.0 sm mn bc new (omega (arith, count, bc)) s_new h.2
      ]
    ]

-- ---- the new network

name_spelled : (t : Step) (x : List ℕ) → IsIn x t.names' → IsName x
name_spelled t x i =
    elim (in_cases x t.names (names_in t.s) (firsts_from bytes_eq (t.names ++ names_in t.s) x (subst (λ (u : List (List ℕ)). IsIn x u) t.names_are i))) [
      | inl a ↦ all_in IsName t.names x t.ready.network.names_spelled a
      | inr b ↦ elim (in_cases x (map (λ u. u.0) t.s.0) (map (λ u. u.0) t.s.1) b) [ inl l ↦ (t.said.left x l).0 | inr r ↦ (t.said.right x r).0 ]
    ]

old_amounts : (t : Step) (row : List ℤ) → IsIn row t.rows → AllByRecursion IsAmount (take (length t.names') row)
old_amounts t row i =
    let n = length t.names in
    let m = length t.names' in
    let w = wide t in
    let v = all_in (IsVector n) (vectors_of n t.rows) (take n row) t.ready.network.vectors (map_in (take n) t.rows row i) in
    subst (AllByRecursion IsAmount) (row_with_zeros n m row w.least w.most (all_in (IsRow n) t.rows row t.ready.padded i)) (amounts_with_zeros m (take n row) v.1)

new_amounts : (t : Step) → AllByRecursion (λ row. AllByRecursion IsAmount (take (length t.names') row)) t.rows'
new_amounts t =
    let P : List ℤ → Type 0 = λ row. AllByRecursion IsAmount (take (length t.names') row) in
    let l : P t.both.left = subst (AllByRecursion IsAmount) (sym t.both.left_row.amounts) (amounts_said t.names' t.s.0 t.said.left_most) in
    let r : P t.both.right = subst (AllByRecursion IsAmount) (sym t.both.right_row.amounts) (amounts_said t.names' t.s.1 t.said.right_most) in
    puts_all P t.both.middle t.rows' t.both.right (puts_all P t.rows t.both.middle t.both.left (all_from P t.rows (old_amounts t)) l t.both.first) r t.both.second

old_covers : (t : Step) → Covers (length t.rows) (ends t.reactions)
old_covers t =
    let c = old_count t in
    record {
      numbered = appears_in_order (ends t.reactions) t.ready.network.numbered;
      all = λ k lt. t.ready.network.each_in_a_reaction k (omega (arith, c));
      below = λ k i. let q = ends_below (length (vectors_of (length t.names) t.rows)) t.reactions t.ready.network.apart k i in omega (arith, c, q);
    }

joins : (t : Step) → AllByRecursion (JoinsTwo (length (vectors_of (length t.names') t.rows'))) t.reactions'
joins t =
    let c = old_count t in
    let d = new_count t in
    let l = (left_found t.names' t.s t.rows t.y t.z t.rows' t.both).1 in
    let r = t.both.right_in in
    let m = length (vectors_of (length t.names') t.rows') in
    let old : AllByRecursion (JoinsTwo m) t.reactions = all_from (JoinsTwo m) t.reactions (λ x i.
    let j = all_in (JoinsTwo (length (vectors_of (length t.names) t.rows))) t.reactions x t.ready.network.apart i in
    let j1 = j.1 in
    let j2 = j.2 in
    let e = (both_keep t.names' t.s t.rows t.y t.z t.rows' x.0 t.both (omega (arith, c, j1))).1 in
    let f = (both_keep t.names' t.s t.rows t.y t.z t.rows' x.1 t.both (omega (arith, c, j2))).1 in
    (j.0, omega (arith, d, e), omega (arith, d, f))) in
    puts_all (JoinsTwo m) t.reactions t.reactions' (t.y, t.z) old (sides_apart t, omega (arith, d, l), omega (arith, d, r)) t.puts

pub new_partial : (t : Step) → IsPartialNetwork (new_net t)
new_partial t =
    let m = length t.names' in
    let w = wide t in
    let d = rows_distinct t.names t.rows t.reactions t.names' t.s t.y t.z t.rows' t.ready w t.both in
    let covers = covers_both (length t.rows) (length t.both.middle) (length t.rows') t.y t.z t.reactions t.reactions' (old_covers t) (row_places t) t.puts in
    let count = new_count t in
    record {
      names = names_apart t;
      names_spelled = all_from IsName t.names' (name_spelled t);
      complexes = vectors_distinct t.names t.rows t.reactions t.names' t.s t.y t.z t.rows' t.ready w t.both;
      vectors = all_map (IsVector m) (take m) t.rows' (λ row i. (row_length m row t.most (all_in (IsRow m) t.rows' row d.1 i), all_in (λ u. AllByRecursion IsAmount (take m u)) t.rows' row (new_amounts t) i));
      reactions = puts_distinct t.reactions t.reactions' (t.y, t.z) t.ready.network.reactions t.puts;
      apart = joins t;
      numbered = in_order_appears (ends t.reactions') covers.numbered;
      each_in_a_reaction = λ c lt. covers.all c (omega (arith, count));
      each_in_a_complex = each_held t;
      species_in_order = in_order t;
      species_limit = t.most;
      complexes_limit = let f = t.both.few in omega (arith, count, f);
      reactions_limit = t.few;
    }

pub new_rows : (t : Step) → AreRows (length t.names') t.rows'
new_rows t = (rows_distinct t.names t.rows t.reactions t.names' t.s t.y t.z t.rows' t.ready (wide t) t.both).1
