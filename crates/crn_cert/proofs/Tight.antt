-- A verdict says the same without the spares of its lists.
use Rattle.crn_cert.proofs.Prelude.{◌≡◌, ◌++◌, [], ◌∷◌, refl, ap, Net, Gap, Wide, Verdict, Unknown, Earlier, Question, Q1, labels_of, count_of, exits_of, rank_of, IsOpen, IsYes, IsNo, tight, all_tight, IsTrueOf, IsTrueOrOpen, vector_given}

pub labels_tight : (v : Verdict) → labels_of (tight v) ≡ labels_of v
labels_tight (Unknown gap) = refl
labels_tight v = refl

pub count_tight : (v : Verdict) → count_of (tight v) ≡ count_of v
count_tight (Unknown gap) = refl
count_tight v = refl

pub exits_tight : (v : Verdict) → exits_of (tight v) ≡ exits_of v
exits_tight (Unknown gap) = refl
exits_tight v = refl

pub rank_tight : (v : Verdict) → rank_of (tight v) ≡ rank_of v
rank_tight (Unknown gap) = refl
rank_tight v = refl

pub vector_tight : (v : Verdict) → vector_given (tight v) ≡ vector_given v
vector_tight (Unknown gap) = refl
vector_tight v = refl

pub open_tight : (v : Verdict) → IsOpen (tight v) ≡ IsOpen v
open_tight (Unknown gap) = refl
open_tight v = refl

pub yes_tight : (v : Verdict) → IsYes (tight v) ≡ IsYes v
yes_tight (Unknown gap) = refl
yes_tight v = refl

pub no_tight : (v : Verdict) → IsNo (tight v) ≡ IsNo v
no_tight (Unknown gap) = refl
no_tight v = refl

-- once is enough
pub tight_twice : (v : Verdict) → tight (tight v) ≡ tight v
tight_twice (Unknown (Wide system class index basis)) = refl
tight_twice v = refl

pub all_tight_then : (earlier : Earlier) (q : Question) (v : Verdict) → all_tight (earlier ++ (q, v) ∷ []) ≡ all_tight earlier ++ (q, tight v) ∷ []
all_tight_then [] q v = refl
all_tight_then (e ∷ es) q v = ap (λ (x : Earlier). (e.0, tight e.1) ∷ x) (all_tight_then es q v)

-- ---- truth

-- a verdict stays true or open
pub true_tight : (net : Net) (q : Question) (v : Verdict) → IsTrueOrOpen net q v → IsTrueOrOpen net q (tight v)
true_tight net q (Unknown gap) h = tt
true_tight net Q1 v h = h
true_tight net q v h = h

-- no open verdict is true
never_open : (net : Net) (q : Question) (gap : Gap) → IsTrueOf net q (Unknown gap) → ⊥
never_open net Q1 gap h = h
never_open net q gap h = h

-- and a true one true
pub is_true_tight : (net : Net) (q : Question) (v : Verdict) → IsTrueOf net q v → IsTrueOf net q (tight v)
is_true_tight net q (Unknown gap) h = absurd (never_open net q gap h)
is_true_tight net q v h = true_tight net q v h
