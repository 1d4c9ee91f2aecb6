-- The results of the steps of adding a reaction.
use Rattle.crn_net.proofs.Prelude.{◌≡◌, ◌⊎◌, ℕ, ◌≤◌, List, [], ◌++◌, length, get_or, take, map, sym, ap, subst, ◌∙◌, inl, inr, arith, Ok, Err, Result, ℤ, pos, bytes_eq, bytes_eq-Decides, get_or-map, length-take, IsIn, AreDistinct, firsts, amount_in, amounts_in, names_in, Statement, MAX_SPECIES, NetFault, SelfReaction, TooManySpecies, TooManyComplexes, TooManyReactions, NoReaction, NoMemory, SaysSame, Puts, NotesSide, AreNoted, NotesBoth, TellsApart, NotesSides, NotesRow, NotesReaction, PutsBoth, LeftIsOver, RightIsOver, BuildGives, in_left, in_right, in_at, firsts_distinct, firsts_has, any_is, name_decides, none_said, amounts_same}
use Rattle.crn_net.proofs.Names.{names_both, left_over}
use Rattle.crn_net.proofs.Rows.{row_ext}
use Rattle.crn_net.proofs.Counting.{counted_is, is_counted, counted_wider}

-- ---- names and rows of both sides

pub left_stops : (old middle : List (List ℕ)) (s : Statement) (left : List ℤ) (rows : List ℤ × List ℤ) (e : NetFault) → NotesSide old s.0 (Err e) middle left → NotesBoth old s (Err e) middle rows
left_stops old middle s left rows SelfReaction h = h
left_stops old middle s left rows TooManySpecies h = left_over old s MAX_SPECIES h
left_stops old middle s left rows TooManyComplexes h = absurd h
left_stops old middle s left rows TooManyReactions h = absurd h
left_stops old middle s left rows NoReaction h = h
left_stops old middle s left rows NoMemory h = tt

-- the row of the left side is that of all names too
both_noted : (old middle new : List (List ℕ)) (s : Statement) (left right : List ℤ) → NotesSide old s.0 (Ok tt) middle left → NotesSide middle s.1 (Ok tt) new right → take (length middle) new ≡ middle → AreNoted old s (left, right) new
both_noted old middle new s left right l r kept =
    let distinct : AreDistinct new = subst AreDistinct (sym r.0) (firsts_distinct bytes_eq bytes_eq-Decides (middle ++ map (λ t. t.0) s.1)) in
    let prefix = length-take (length middle) new in
    let long = ap length kept in
    let has : (name : List ℕ) → IsIn name (map (λ t. t.0) s.0) → IsIn name middle =
    λ name i. subst (λ (t : List (List ℕ)). IsIn name t) (sym l.0) (firsts_has bytes_eq bytes_eq-Decides (old ++ map (λ t. t.0) s.0) name (in_right name old (map (λ t. t.0) s.0) i)) in
    record {
      names = r.0 ∙ names_both old middle s l.0;
      few = r.1;
      left = counted_is new s.0 left r.1 (counted_wider middle new s.0 left (is_counted middle s.0 left l.2) distinct kept (omega (arith, prefix, long)) has);
      right = r.2;
    }

pub right_ends : (old middle new : List (List ℕ)) (s : Statement) (left right : List ℤ) (result : Result Unit NetFault) → NotesSide old s.0 (Ok tt) middle left → NotesSide middle s.1 result new right → take (length middle) new ≡ middle → NotesBoth old s result new (left, right)
right_ends old middle new s left right (Ok done) l r kept = both_noted old middle new s left right l r kept
right_ends old middle new s left right (Err SelfReaction) l r kept = r
right_ends old middle new s left right (Err TooManySpecies) l r kept = let e = ap length (names_both old middle s l.0) in omega (arith, e, r)
right_ends old middle new s left right (Err TooManyComplexes) l r kept = absurd r
right_ends old middle new s left right (Err TooManyReactions) l r kept = absurd r
right_ends old middle new s left right (Err NoReaction) l r kept = r
right_ends old middle new s left right (Err NoMemory) l r kept = tt

-- ---- self reactions

pub same_amounts : (names : List (List ℕ)) (s : Statement) → ((name : List ℕ) → IsIn name (names_in s) → IsIn name names) → amounts_in names s.0 ≡ amounts_in names s.1 → SaysSame s
same_amounts names s has e name =
    elim (any_is (λ known. bytes_eq known name) name (λ known. name_decides name known) names) [
      | inl a ↦
          let p = in_at name names [] a.1 in
          let l = get_or-map (λ n. pos (amount_in s.0 n)) names p.0 [] (pos 0) p.1 in
          let r = get_or-map (λ n. pos (amount_in s.1 n)) names p.0 [] (pos 0) p.1 in
          let m = ap (λ (u : List ℤ). get_or u p.0 (pos 0)) e in
          let at : pos (amount_in s.0 (get_or names p.0 [])) ≡ pos (amount_in s.1 (get_or names p.0 [])) = sym l ∙ m ∙ r in
          let P : List ℕ → Type 0 = λ n. amount_in s.0 n ≡ amount_in s.1 n in
          subst P p.2 (let q = at in cc)
      | inr b ↦
          none_said s.0 name (λ i. b.1 (has name (in_left name (map (λ t. t.0) s.0) (map (λ t. t.0) s.1) i)))
          ∙ sym (none_said s.1 name (λ i. b.1 (has name (in_right name (map (λ t. t.0) s.0) (map (λ t. t.0) s.1) i))))
    ]

has_all : (old : List (List ℕ)) (s : Statement) (name : List ℕ) → IsIn name (names_in s) → IsIn name (firsts bytes_eq (old ++ names_in s))
has_all old s name i = firsts_has bytes_eq bytes_eq-Decides (old ++ names_in s) name (in_right name old (names_in s) i)

-- equal amounts of all names mean equal sides
pub amounts_say : (old : List (List ℕ)) (s : Statement) → amounts_in (firsts bytes_eq (old ++ names_in s)) s.0 ≡ amounts_in (firsts bytes_eq (old ++ names_in s)) s.1 → SaysSame s
amounts_say old s h = same_amounts (firsts bytes_eq (old ++ names_in s)) s (has_all old s) h

rows_say : (old new : List (List ℕ)) (s : Statement) (both : List ℤ × List ℤ) → AreNoted old s both new → both.0 ≡ both.1 → SaysSame s
rows_say old new s both n e = amounts_say old s (subst (λ (t : List (List ℕ)). amounts_in t s.0 ≡ amounts_in t s.1) n.names (sym n.left.amounts ∙ ap (take (length new)) e ∙ n.right.amounts))

says_rows : (old new : List (List ℕ)) (s : Statement) (both : List ℤ × List ℤ) → AreNoted old s both new → SaysSame s → both.0 ≡ both.1
says_rows old new s both n h = row_ext (length new) both.0 both.1 n.left.is n.right.is (n.left.amounts ∙ amounts_same new s.0 s.1 h ∙ sym n.right.amounts)

-- different sides have different rows
pub apart_noted : (old new : List (List ℕ)) (s : Statement) (both : List ℤ × List ℤ) (result : Result Unit NetFault) → AreNoted old s both new → TellsApart both result → NotesSides old s result new both
apart_noted old new s both (Ok done) n h = (λ says. h (says_rows old new s both n says), n)
apart_noted old new s both (Err SelfReaction) n h = rows_say old new s both n h
apart_noted old new s both (Err TooManySpecies) n h = absurd h
apart_noted old new s both (Err TooManyComplexes) n h = h
apart_noted old new s both (Err TooManyReactions) n h = h
apart_noted old new s both (Err NoReaction) n h = h
apart_noted old new s both (Err NoMemory) n h = tt

-- ---- rows and the reaction

pub right_row_stops : (old names : List (List ℕ)) (rows middle rows' : List (List ℤ)) (reactions reactions' : List (ℕ × ℕ)) (s : Statement) (both : List ℤ × List ℤ) (e : NetFault)
    → NotesSides old s (Ok tt) names both → Puts rows both.0 middle → NotesRow middle both.1 (Err e) rows' → BuildGives old rows reactions s (Err e) names rows' reactions'
right_row_stops old names rows middle rows' reactions reactions' s both SelfReaction n p h = absurd h
right_row_stops old names rows middle rows' reactions reactions' s both TooManySpecies n p h = absurd h
right_row_stops old names rows middle rows' reactions reactions' s both TooManyComplexes n p h =
    let over = subst (λ (t : List (List ℕ)). (length t ≤ MAX_SPECIES) × (LeftIsOver t s rows ⊎ RightIsOver t s rows)) n.1.names (n.1.few, inr (record { left = both.0; right = both.1; middle = middle; left_row = n.1.left; right_row = n.1.right; first = p; fresh = h.1; full = h.2 })) in
    (n.0, over.0, over.1)
right_row_stops old names rows middle rows' reactions reactions' s both TooManyReactions n p h = absurd h
right_row_stops old names rows middle rows' reactions reactions' s both NoReaction n p h = h
right_row_stops old names rows middle rows' reactions reactions' s both NoMemory n p h = tt

pub both_put : (old names : List (List ℕ)) (rows middle rows' : List (List ℤ)) (s : Statement) (both : List ℤ × List ℤ) (y z : ℕ) → AreNoted old s both names → NotesRow rows both.0 (Ok y) middle → NotesRow middle both.1 (Ok z) rows' → PutsBoth names s rows y z rows'
both_put old names rows middle rows' s both y z n a b = record {
  left = both.0;
  right = both.1;
  middle = middle;
  left_row = n.left;
  right_row = n.right;
  first = a.0;
  second = b.0;
  left_in = a.1;
  left_at = a.2;
  right_in = b.1;
  right_at = b.2;
  few = b.3;
}

pub reaction_ends : (old names : List (List ℕ)) (rows rows' : List (List ℤ)) (reactions reactions' : List (ℕ × ℕ)) (s : Statement) (both : List ℤ × List ℤ) (y z : ℕ) (result : Result Unit NetFault)
    → NotesSides old s (Ok tt) names both → PutsBoth names s rows y z rows' → NotesReaction reactions (y, z) result reactions' → BuildGives old rows reactions s result names rows' reactions'
reaction_ends old names rows rows' reactions reactions' s both y z (Ok done) n p h = (n.0, record { y = y; z = z; names_are = n.1.names; names_few = n.1.few; rows_are = p; reactions_are = h.0; reactions_few = h.1 })
reaction_ends old names rows rows' reactions reactions' s both y z (Err SelfReaction) n p h = absurd h
reaction_ends old names rows rows' reactions reactions' s both y z (Err TooManySpecies) n p h = absurd h
reaction_ends old names rows rows' reactions reactions' s both y z (Err TooManyComplexes) n p h = absurd h
reaction_ends old names rows rows' reactions reactions' s both y z (Err TooManyReactions) n p h = (
  n.0,
  record {
    y = y;
    z = z;
    rows' = rows';
    names_few = subst (λ (t : List (List ℕ)). length t ≤ MAX_SPECIES) n.1.names n.1.few;
    rows_are = subst (λ (t : List (List ℕ)). PutsBoth t s rows y z rows') n.1.names p;
    fresh = h.1;
    full = h.2;
  },
)
reaction_ends old names rows rows' reactions reactions' s both y z (Err NoReaction) n p h = h
reaction_ends old names rows rows' reactions reactions' s both y z (Err NoMemory) n p h = tt
