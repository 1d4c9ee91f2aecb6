-- What a search over a shape gives.
use Rattle.crn_shelf.proofs.Prelude.{◌≡◌, ℕ, subst, Result, Ok, Err, MatchResult, Net, Mat, reaction_system, Shape, signals, SearchEnd, SearchStop, IsSearchEnd, IsSearchStop}

pub matched : {T E : Type 0} (P Q : T → Type 0) (R S : E → Type 0) (r : Result T E) → ((x : T) → P x → Q x) → ((e : E) → R e → S e) → MatchResult r P R → MatchResult r Q S
matched P Q R S (Ok x) f g h = f x h
matched P Q R S (Err e) f g h = g e h

pub end_by : (net : Net) (s : Shape) (m : Mat) (budget : ℕ) (e : SearchEnd) → m ≡ reaction_system net → IsSearchEnd (signals s m) budget e → IsSearchEnd (signals s (reaction_system net)) budget e
end_by net s m budget e same h = subst (λ (a : Mat). IsSearchEnd (signals s a) budget e) same h

pub stop_by : (net : Net) (s : Shape) (m : Mat) (stop : SearchStop) → m ≡ reaction_system net → IsSearchStop (signals s m) stop → IsSearchStop (signals s (reaction_system net)) stop
stop_by net s m stop same h = subst (λ (a : Mat). IsSearchStop (signals s a) stop) same h
