-- The verdict of a formed answer is formed.
use Rattle.crn_cert.proofs.Prelude.{Net, Verdict, Classes, Strong, Rank, YesVec, YesSignal, NoVec, NoCycle, NoPair, Plane, Proof, Forest, StrongTrees, RankRows, Ties, Earlier, Question, Q1, Q2, Q5, Q7, Q8, Q11, Q12, Q13, Q14, Q15, IsFormedOf, ListsMayBe, FormedAnswersHaveFormedVerdicts, ◌≡◌, sym, subst, List, ℕ, length}
use Rattle.crn_cert.proofs.FormedFacts.{bare_formed, same_base, rank_formed}

lists_1 : (net : Net) (e : Earlier) (v : Verdict) (p : Proof) → IsFormedOf net e Q1 v p → ListsMayBe net e Q1 v
lists_1 net e (Classes count label) (Forest up depth) f = f.0.rows.0
lists_1 net e (Classes count label) p f = absurd (let e = f.1.1 in cc)
lists_1 net e v p f = tt

lists_2 : (net : Net) (e : Earlier) (v : Verdict) (p : Proof) → IsFormedOf net e Q2 v p → ListsMayBe net e Q2 v
lists_2 net e (Strong count terminal label exit) (StrongTrees from from_depth to to_depth level) f = (f.0.rows.0, f.0.rows.1.1.1.1.1.1.0)
lists_2 net e (Strong count terminal label exit) p f = absurd (let e = f.1.1 in cc)
lists_2 net e v p f = tt

lists_5 : (net : Net) (e : Earlier) (v : Verdict) (p : Proof) → IsFormedOf net e Q5 v p → ListsMayBe net e Q5 v
lists_5 net e (Rank rank base) (RankRows proof) f =
    let same = same_base net e rank base proof f in
    let shape = rank_formed net e rank base proof f in
    record { long = subst (λ (t : List ℕ). length t ≡ rank) (sym same) shape.long; ascending = rw same shape.ascending; from = rw same shape.from }
lists_5 net e (Rank rank base) p f = absurd (let e = f.1.1 in cc)
lists_5 net e v p f = tt

lists_7 : (net : Net) (e : Earlier) (v : Verdict) (p : Proof) → IsFormedOf net e Q7 v p → ListsMayBe net e Q7 v
lists_7 net e (YesVec vector) p f = (bare_formed net e Q7 (YesVec vector) p f.0.trees f.1.1 f).0.rows.0
lists_7 net e (NoVec multipliers) p f = (bare_formed net e Q7 (NoVec multipliers) p f.0.trees f.1.1 f).0.rows.0
lists_7 net e v p f = tt

lists_8 : (net : Net) (e : Earlier) (v : Verdict) (p : Proof) → IsFormedOf net e Q8 v p → ListsMayBe net e Q8 v
lists_8 net e (YesVec vector) p f = (bare_formed net e Q8 (YesVec vector) p f.0.trees f.1.1 f).0.rows.0
lists_8 net e (NoVec multipliers) p f = (bare_formed net e Q8 (NoVec multipliers) p f.0.trees f.1.1 f).0.rows.0
lists_8 net e v p f = tt

lists_11 : (net : Net) (e : Earlier) (v : Verdict) (p : Proof) → IsFormedOf net e Q11 v p → ListsMayBe net e Q11 v
lists_11 net e (NoCycle reaction walk) p f = (bare_formed net e Q11 (NoCycle reaction walk) p f.0.trees f.1.1 f).0.rows.0
lists_11 net e v p f = tt

lists_12 : (net : Net) (e : Earlier) (v : Verdict) (p : Proof) → IsFormedOf net e Q12 v p → ListsMayBe net e Q12 v
lists_12 net e (YesVec vector) (Ties ties) f = f.0.rows.0
lists_12 net e (YesVec vector) p f = absurd (let e = f.1.1 in cc)
lists_12 net e (Plane first second one two) p f = let rows = (bare_formed net e Q12 (Plane first second one two) p f.0.trees f.1.1 f).0.rows in (rows.0, rows.1.0)
lists_12 net e v p f = tt

lists_13 : (net : Net) (e : Earlier) (v : Verdict) (p : Proof) → IsFormedOf net e Q13 v p → ListsMayBe net e Q13 v
lists_13 net e (YesSignal turn shelves mu level weights) p f =
    let rows = (bare_formed net e Q13 (YesSignal turn shelves mu level weights) p f.0.trees f.1.1 f).0.rows in
    record { shelves_are = rows.0; mu_is = rows.1.0; level_is = rows.1.1.0; weights_are = rows.1.1.1.0 }
lists_13 net e v p f = tt

lists_14 : (net : Net) (e : Earlier) (v : Verdict) (p : Proof) → IsFormedOf net e Q14 v p → ListsMayBe net e Q14 v
lists_14 net e (NoPair alpha weights) p f = let rows = (bare_formed net e Q14 (NoPair alpha weights) p f.0.trees f.1.1 f).0.rows in (rows.0, rows.1.0)
lists_14 net e v p f = tt

lists_15 : (net : Net) (e : Earlier) (v : Verdict) (p : Proof) → IsFormedOf net e Q15 v p → ListsMayBe net e Q15 v
lists_15 net e (NoPair alpha weights) p f = let rows = (bare_formed net e Q15 (NoPair alpha weights) p f.0.trees f.1.1 f).0.rows in (rows.0, rows.1.0)
lists_15 net e v p f = tt

lists : (net : Net) (e : Earlier) (q : Question) (v : Verdict) (p : Proof) → IsFormedOf net e q v p → ListsMayBe net e q v
lists net e Q1 v p f = lists_1 net e v p f
lists net e Q2 v p f = lists_2 net e v p f
lists net e Q5 v p f = lists_5 net e v p f
lists net e Q7 v p f = lists_7 net e v p f
lists net e Q8 v p f = lists_8 net e v p f
lists net e Q11 v p f = lists_11 net e v p f
lists net e Q12 v p f = lists_12 net e v p f
lists net e Q13 v p f = lists_13 net e v p f
lists net e Q14 v p f = lists_14 net e v p f
lists net e Q15 v p f = lists_15 net e v p f
lists net e q v p f = tt

pub formed_answers_have_formed_verdicts : FormedAnswersHaveFormedVerdicts
formed_answers_have_formed_verdicts net e q v p f = (f.0.head, lists net e q v p f)
