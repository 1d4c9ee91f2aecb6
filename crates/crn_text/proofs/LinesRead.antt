-- One line of a text after another.
use Rattle.crn_text.proofs.Prelude.{◌≡◌, ℕ, zero, suc, ◌+◌, ◌<◌, ◌≤◌, Bool, true, false, List, [], ◌∷◌, ◌++◌, length, take, drop, get_or, Option, Some, None, Result, Ok, Err, Bor, refl, sym, ap, subst, ◌∙◌, inl, inr, below_more, arith, flat_map_push, all_given, ◌⊎◌, list_all, append-nil, length-drop, take_more, firsts, Net, Statement, IsNetwork, sides_eq, said_by, MAX_TEXT, Grown, FinishGives, NetFault, Grown-names, Grown-reactions, net_code, lines, before_comment, tokens, tokens_after, line_statements, all_statements, is_plain, own_fault, line_fault, or_else, Spells, Fault, fault_on, AreFaultless, IsFirstFault, IsWithoutReaction, SplitsAt, after_split, TokensGive, LineGives, TextCode, NotAscii, NoMemory, NoReaction}
use Rattle.std.specs.Prelude.{map}
use Rattle.std.proofs.lemmas.List.{take_all}
use Rattle.crn_net.specs.declared.fault.NetFault.TheVariants as refusal
use Rattle.crn_text.proofs.Splits.{lines_after, lines_split, split_size}

-- ---- one line

pub fault_plain : (before : List Statement) (line : List ℕ) → list_all is_plain (before_comment line) ≡ false → line_fault before line ≡ Some NotAscii
unfolding own_fault
fault_plain before line h = rw h refl

pub line_gives : (before : List Statement) (line : List ℕ) (r : Result Unit TextCode) (net : Net) → list_all is_plain (before_comment line) ≡ true → TokensGive before (tokens (before_comment line)) r net → LineGives before line r net
unfolding own_fault
line_gives before line (Ok done) net h w = (rw h w.0, w.1)
line_gives before line (Err fault) net h (inl m) = inl m
line_gives before line (Err fault) net h (inr f) = inr (rw h f)

nothing : (xs : List ℕ) → length xs ≡ 0 → xs ≡ []
nothing [] e = refl
nothing (x ∷ xs) e = absurd (omega arith)

no_tokens_give : (before : List Statement) (done : Unit {0}) (net : Net) → Grown before net → TokensGive before (tokens []) (Ok done) net
unfolding tokens_after
no_tokens_give before done net grown = (refl, subst (λ (ss : List Statement). Grown ss net) (sym (append-nil before)) grown)

-- a line without a body has no tokens
pub empty_gives : (before : List Statement) (line : List ℕ) (done : Unit {0}) (net : Net) → length (before_comment line) ≡ 0 → Grown before net → LineGives before line (Ok done) net
empty_gives before line done net none grown =
    let empty : before_comment line ≡ [] = nothing (before_comment line) none in
    let some : TokensGive before (tokens []) (Ok done) net = no_tokens_give before done net grown in
    line_gives before line (Ok done) net (rw empty refl) (rw empty some)

-- ---- the loop over the lines

-- the lines before those that are left have no fault, and their statements are in the network
pub record LinesUpTo (text : List ℕ) (number : ℕ) (left : Option (Bor (List ℕ))) (net : Net) : Type 0 where
  pub after : drop number (lines text) ≡ lines_after left
  pub sound : AreFaultless (lines text) number
  pub grown : Grown (all_statements (take number (lines text))) net
  pub size : number + length (after_split 10 left) ≤ length text + 1

-- the place of the first of the elements that are left
first_left : {X : Type 0} (xs ys : List X) (x d : X) (n : ℕ) → drop n xs ≡ x ∷ ys → (n < length xs) × (get_or xs n d ≡ x) × (drop (n + 1) xs ≡ ys)
first_left [] ys x d zero h = absurd cc
first_left [] ys x d (suc n) h = absurd cc
first_left (y ∷ xs) ys x d zero h = (omega arith, cc, cc)
first_left (y ∷ xs) ys x d (suc n) h =
    let p = first_left xs ys x d n h in
    let e : drop (suc n + 1) (y ∷ xs) ≡ drop (n + 1) xs = let f : suc n + 1 ≡ suc (n + 1) = omega arith in rw f refl in
    (omega (arith, p.0), p.1, e ∙ p.2)

pub lines_more : (text line : List ℕ) (number : ℕ) (rest : Bor (List ℕ)) (next : Option (Bor (List ℕ))) (old new : Net) (done : Unit {0}) → LinesUpTo text number (Some rest) old → SplitsAt 10 rest.now line next → LineGives (all_statements (take number (lines text))) line (Ok done) new → LinesUpTo text (number + 1) next new
lines_more text line number rest next old new done h split g =
    let p = first_left (lines text) (lines_after next) line [] number (h.after ∙ lines_split rest.now line next split) in
    let here : fault_on (lines text) number ≡ None = rw p.1 g.0 in
    let more : take (number + 1) (lines text) ≡ take number (lines text) ++ line ∷ [] = take_more (lines text) number [] p.0 ∙ ap (λ (l : List ℕ). take number (lines text) ++ l ∷ []) p.1 in
    let said_more : all_statements (take (number + 1) (lines text)) ≡ all_statements (take number (lines text)) ++ line_statements line = ap all_statements more ∙ flat_map_push line_statements (take number (lines text)) line in
    record {
      after = p.2;
      sound = below_more _ number h.sound here;
      grown = rw said_more g.1;
      size = omega (arith, h.size, split_size 10 rest.now line next split);
    }

pub lines_stop : (text line : List ℕ) (number : ℕ) (rest : Bor (List ℕ)) (next : Option (Bor (List ℕ))) (old new : Net) (fault : TextCode) → length text ≤ MAX_TEXT → LinesUpTo text number (Some rest) old → SplitsAt 10 rest.now line next → LineGives (all_statements (take number (lines text))) line (Err fault) new → (fault ≡ NoMemory) ⊎ IsFirstFault text (number + 1) fault
lines_stop text line number rest next old new fault short h split (inl m) = inl m
lines_stop text line number rest next old new fault short h split (inr f) =
    let p = first_left (lines text) (lines_after next) line [] number (h.after ∙ lines_split rest.now line next split) in
    inr (record { before = number; counted = refl; short = short; there = p.0; earlier = h.sound; fault = rw p.1 f })

pub lines_all : (text : List ℕ) (number : ℕ) (net : Net) → LinesUpTo text number None net → AreFaultless (lines text) (length (lines text)) × Grown (all_statements (lines text)) net
lines_all text number net h =
    let end : length (lines text) ≤ number = omega (arith, ap length h.after, length-drop number (lines text)) in
    let whole : take number (lines text) ≡ lines text = take_all number (lines text) end in
    (λ k lt. h.sound k (omega (arith, lt, end)), (rw whole at h.grown))

-- ---- the whole text

pub none_own : (own more : Option TextCode) → or_else own more ≡ None → own ≡ None
none_own None more h = refl
none_own (Some code) more h = absurd cc

no_first : {A : Type 0} (same : A → A → Bool) (xs : List A) → firsts same xs ≡ [] → xs ≡ []
no_first same [] h = refl
no_first same (x ∷ xs) h = absurd cc

no_map : {A B : Type 0} (f : A → B) (xs : List A) → map f xs ≡ [] → xs ≡ []
no_map f [] h = refl
no_map f (x ∷ xs) h = absurd cc

pub text_ok : (text : List ℕ) (old made : Net) → length text ≤ MAX_TEXT → AreFaultless (lines text) (length (lines text)) × Grown (all_statements (lines text)) old → (made ≡ old) × IsNetwork made → Spells text made
text_ok text old made short h f =
    let network = rw f.0 at f.1 in
    rw f.0 (record {
      short = short;
      sound = all_given (λ line. own_fault line ≡ None) (lines text) [] (λ k lt. none_own _ _ (h.0 k lt));
      names = Grown-names (all_statements (lines text)) old h.1;
      reactions = Grown-reactions (all_statements (lines text)) old h.1;
      network = network;
    })

pub text_without : (text : List ℕ) (net : Net) → length text ≤ MAX_TEXT → AreFaultless (lines text) (length (lines text)) × Grown (all_statements (lines text)) net → net.reactions ≡ [] → IsWithoutReaction text 0 NoReaction
text_without text net short h none =
    let empty : [] ≡ firsts sides_eq (map (said_by net.names) (all_statements (lines text))) = rw none at (Grown-reactions (all_statements (lines text)) net h.1) in
    record { named = refl; whole = refl; short = short; sound = h.0; none = no_map (said_by net.names) (all_statements (lines text)) (no_first sides_eq _ (sym empty)) }

pub text_err : (text : List ℕ) (net : Net) (fault : NetFault) (code : TextCode) → length text ≤ MAX_TEXT → AreFaultless (lines text) (length (lines text)) × Grown (all_statements (lines text)) net → FinishGives net (Err fault) → code ≡ net_code fault → (code ≡ NoMemory) ⊎ Fault text 0 code
text_err text net refusal.NoReaction code short h f e = rw e (inr (inr (inr (text_without text net short h f))))
text_err text net refusal.NoMemory code short h f e = inl e
text_err text net refusal.SelfReaction code short h f e = absurd f
text_err text net refusal.TooManySpecies code short h f e = absurd f
text_err text net refusal.TooManyComplexes code short h f e = absurd f
text_err text net refusal.TooManyReactions code short h f e = absurd f
