-- Arrows that come again in a line add nothing.
use Rattle.crn_text.proofs.Prelude.{◌≡◌, ℕ, zero, suc, List, [], ◌∷◌, ◌++◌, get_or, set, Option, Some, None, Ok, Bor, sym, ap₂, subst, IsIn, Net, Statement, in_left, in_right, all_set, side_of, Grown, Term, tokens, terms_of, by_arrow, StatementsGive, says, AreIn, AreSaid, HasSaid, TokenKind, Step}
use Rattle.crn_text.specs.Inner.Said.{IsSaid}
use Rattle.crn_text.proofs.ArrowsRead.{ArrowsRead}
use Rattle.crn_text.proofs.Repeats.{any_stay}

-- ---- the arrows that are remembered

-- an arrow in a slot
pub said_at : (ss : List Statement) (steps : List (Option Step)) (k : ℕ) (step : Step) → AreSaid ss steps → get_or steps k None ≡ Some step → AreIn (says step.left.now step.kind step.right.now) ss
said_at ss [] k step h is = absurd cc
said_at ss (x ∷ steps) zero step h is = subst (λ (o : Option Step). IsSaid ss o) is h.0
said_at ss (x ∷ steps) (suc k) step h is = said_at ss steps k step h.1 is

-- one more
pub said_put : (ss : List Statement) (steps : List (Option Step)) (k : ℕ) (o : Option Step) → AreSaid ss steps → IsSaid ss o → AreSaid ss (set steps k o)
said_put ss steps k o h g = all_set (IsSaid ss) steps k o h g

said_more : (ss more : List Statement) (o : Option Step) → IsSaid ss o → IsSaid (ss ++ more) o
said_more ss more None h = tt
said_more ss more (Some step) h = λ s i. in_left s ss more (h s i)

all_said_more : (ss more : List Statement) (steps : List (Option Step)) → AreSaid ss steps → AreSaid (ss ++ more) steps
all_said_more ss more [] h = tt
all_said_more ss more (o ∷ steps) h = (said_more ss more o h.0, all_said_more ss more steps h.1)

-- ---- statements that are added, or were

-- the statements of an arrow that is remembered
pub said_gives : (before : List Statement) (net : Net) (steps : List (Option Step)) (left right : List ℕ) (kind : TokenKind) (x y : List (List ℕ × ℕ)) (done : Unit {0}) → HasSaid net steps → ((ss : List Statement) → AreSaid ss steps → AreIn (says left kind right) ss)
    → x ≡ terms_of (tokens left) → y ≡ terms_of (tokens right) → Grown before net → StatementsGive before (by_arrow kind x y) (Ok done) net
said_gives before net steps left right kind x y done h known ex ey grown =
    let is : by_arrow kind x y ≡ says left kind right = ap₂ (by_arrow kind) ex ey in
    any_stay (by_arrow kind x y) h.ss before net h.grown grown (λ s i. known h.ss h.said s (subst (λ (ts : List Statement). IsIn s ts) is i))

-- the network has the statements of an arrow that was added
pub said_keeps : (net new : Net) (steps after : List (Option Step)) (left right : List ℕ) (kind : TokenKind) (x y : List (List ℕ × ℕ)) (done : Unit {0}) → HasSaid net steps → ((before : List Statement) → Grown before net → StatementsGive before (by_arrow kind x y) (Ok done) new)
    → ((ss : List Statement) → AreSaid ss steps → AreIn (says left kind right) ss → AreSaid ss after) → x ≡ terms_of (tokens left) → y ≡ terms_of (tokens right) → HasSaid new after
said_keeps net new steps after left right kind x y done h added put ex ey =
    let here = by_arrow kind x y in
    let is : here ≡ says left kind right = ap₂ (by_arrow kind) ex ey in
    record {
      ss = h.ss ++ here;
      grown = (added h.ss h.grown).1;
      said = put (h.ss ++ here) (all_said_more h.ss here steps h.said) (λ s i. in_right s h.ss here (subst (λ (ts : List Statement). IsIn s ts) (sym is) i));
    }

-- ---- one arrow after another

-- the arrows so far are read, and those that are remembered have their statements in the network
pub record ArrowsSaid (body : List ℕ) (start : Net) (left : List Term) (before : List ℕ) (arrow : Option (TokenKind × Bor (List ℕ))) (net : Net) (steps : List (Option Step)) : Type 0 where
  pub read : ArrowsRead body start left arrow net
  pub same : side_of body left ≡ terms_of (tokens before)
  pub said : (first : List Statement) → Grown first start → HasSaid net steps
