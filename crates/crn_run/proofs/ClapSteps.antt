-- The steps of clap's walk at a word that is a value.
use Rattle.crn_run.proofs.Prelude.{◌≡◌, ◌&&◌, ◌+◌, ℕ, Bool, true, false, List, [], ◌∷◌, Option, Some, None, refl, sym, ap, ◌∙◌, codes, if◌then◌else◌, unwrap_or, Held, Row, Rule, Step, Text, Walk, after_step, arg_by_index, idle, is_pending, option, pushed, settled, walked, word_met, new_rule, Kinds, or_else, settle_fault, step_fault, turn_fault}
use Rattle.crn_run.proofs.ClapWords.{IsValue, at, budget, holding, none_then, rules, second_none, shape, some_fault}

-- ---- the option waits for a value

pub waiting_fault : (rows : List Row) (pos : ℕ) (word : Text) → IsValue word → turn_fault shape [] (at rows (Some (budget, [])) (option budget) pos) word ≡ []
waiting_fault rows pos word is =
    let v = is rows (Some (budget, [])) (option budget) pos in
    none_then _ _ v.0 (ap (λ (m : Held × Step). step_fault shape pos m.0 m.1) v.1)

pub waiting_walked : (rows : List Row) (pos : ℕ) (word : Text) → IsValue word → walked rules [] (at rows (Some (budget, [])) (option budget) pos) word ≡ at rows (Some (budget, word ∷ [])) idle pos
unfolding walked
waiting_walked rows pos word is =
    let v = is rows (Some (budget, [])) (option budget) pos in
    ap (λ (m : Held × Step). after_step rules word (at rows (Some (budget, [])) (option budget) pos) m.0 m.1) v.1

-- ---- nothing waits

-- the argument at a place
abbrev place_rule : ℕ → Rule
place_rule pos = unwrap_or (arg_by_index rules pos) (new_rule [])

-- at place 1 or 2, what the walk does with a value
pub record IsPlace (pos : ℕ) (id : Text) : Type 0 where
  pub fault : (rows : List Row) (p : Option (Text × List Text)) (word : Text) → IsValue word → turn_fault shape [] (at rows p idle pos) word ≡ settle_fault rules false (holding rows p)
  pub walked : (rows : List Row) (p : Option (Text × List Text)) (word : Text) → IsValue word → walked rules [] (at rows p idle pos) word ≡ at (settled rules (holding rows p)).rows (Some (id, word ∷ [])) idle (pos + 1)

abbrev walk_at : Held → ℕ → Walk
walk_at h pos = record { held = h; waiting = idle; position = pos; is_trailing = false; stopped = None }

and_false : {X : Type 0} (b : Bool) (x y : X) → (if (b && false) then x else y) ≡ y
and_false true x y = refl
and_false false x y = refl

pub first_place : IsPlace 1 (codes "command")
unfolding walked
first_place = record {
  fault = λ rows p word is.
      let v = is rows p idle 1 in
      ap (λ (k : Kinds). or_else k (step_fault shape 1 (word_met rules [] false idle 1 word (holding rows p)).0 (word_met rules [] false idle 1 word (holding rows p)).1)) v.0
      ∙ ap (λ (m : Held × Step). step_fault shape 1 m.0 m.1) v.1
      ∙ and_false (is_pending (place_rule 1) p) [] (settle_fault rules false (holding rows p));
  walked = λ rows p word is.
      let v = is rows p idle 1 in
      ap (λ (m : Held × Step). after_step rules word (at rows p idle 1) m.0 m.1) v.1
      ∙ ap (λ (h : Held). walk_at (pushed (codes "command") word h) 2) (and_false (is_pending (place_rule 1) p) (holding rows p) (settled rules (holding rows p)));
}

pub second_place : IsPlace 2 (codes "count")
unfolding walked
second_place = record {
  fault = λ rows p word is.
      let v = is rows p idle 2 in
      ap (λ (k : Kinds). or_else k (step_fault shape 2 (word_met rules [] false idle 2 word (holding rows p)).0 (word_met rules [] false idle 2 word (holding rows p)).1)) v.0
      ∙ ap (λ (m : Held × Step). step_fault shape 2 m.0 m.1) v.1
      ∙ and_false (is_pending (place_rule 2) p) [] (settle_fault rules false (holding rows p));
  walked = λ rows p word is.
      let v = is rows p idle 2 in
      ap (λ (m : Held × Step). after_step rules word (at rows p idle 2) m.0 m.1) v.1
      ∙ ap (λ (h : Held). walk_at (pushed (codes "count") word h) 3) (and_false (is_pending (place_rule 2) p) (holding rows p) (settled rules (holding rows p)));
}

-- no argument takes a third value
pub third_place : (rows : List Row) (p : Option (Text × List Text)) (word : Text) → IsValue word → turn_fault shape [] (at rows p idle 3) word ≡ [] → ⊥
third_place rows p word is e =
    let v = is rows p idle 3 in
    some_fault (sym (ap (λ (m : Held × Step). step_fault shape 3 m.0 m.1) v.1) ∙ second_none _ _ e)
