-- From a line or an output to a whole run.
use Rattle.crn_run.proofs.Prelude.{◌≡◌, ℕ, ◌+◌, List, [], ◌++◌, length, Option, Some, None, Result, Ok, Err, refl, sym, ap, subst, ◌∙◌, inl, inr, arith, IfSome, length-append, append-nil, MAX_TEXT, ReadStop, TooLong, Failed, Consumes, HasNoneLeft, ReadGives, ConsumesUpTo, Fault, IsTooLong, TextTooLong, SourceSeen, usage_line, Devices, WasLeft, IsReadOut, IsReadFor, IsReadBy, IsReadWithin, IsOutput, IsRefusalOf, ReadsNetwork, RunGives, refused_line, IsCommand, SayACommand, Net, NetworkRead, HasNoMemory, LineGives, NetworkGives, OutputGives, StopGives, Stop, Command, Report, Certify, Check, Sample, Prove, Verify, Status, Done, OpenLeft, Refused, Rejected, Usage, ReadFault, WriteFault, NoMemory}
use Rattle.crn_io.specs.declared.fault.ReadStop.TheVariants as stop
use Rattle.crn_run.proofs.Statuses.{output_is_written, refused_or_says, says_answered}
use Rattle.crn_run.proofs.WordsSaid.{one_command}
use Rattle.crn_run.specs.declared.network.Stop.TheVariants as network

-- ---- sources

-- what was consumed of a source that has nothing left is all that it had
pub all_of_it : (left rest : Option (List ℕ)) (text : List ℕ) → Consumes left text rest → HasNoneLeft rest → IfSome left (λ t. t ≡ text)
all_of_it None rest text p q = tt
all_of_it (Some t) None text p q = absurd (let e = p.1 in cc)
all_of_it (Some t) (Some r) text p q =
    let e : r ≡ p.0 = let h = p.1 in cc in
    p.2 ∙ ap (λ (x : List ℕ). text ++ x) (sym e ∙ q) ∙ append-nil text

pub read_out : (left rest : Option (List ℕ)) (text : List ℕ) → Consumes left text rest → HasNoneLeft rest → IsReadOut left rest
read_out None rest text p q = p
read_out (Some t) None text p q = absurd (let e = p.1 in cc)
read_out (Some t) (Some r) text p q = ap Some q

-- some text is what was left
some_text : (left : Option (List ℕ)) → (text : List ℕ) × IfSome left (λ t. t ≡ text)
some_text None = ([], tt)
some_text (Some t) = (t, refl)

-- a text that exceeds the limit is refused as too long
long_refused : (text bytes rest : List ℕ) → length bytes ≡ MAX_TEXT + 1 → text ≡ bytes ++ rest → Fault text 0 TextTooLong
long_refused text bytes rest long e =
    let past : IsTooLong text 0 TextTooLong = record { named = refl; whole = refl; long = omega (arith, ap length e, length-append bytes rest) } in
    inl past

pub too_long : (left rest : Option (List ℕ)) (bytes : List ℕ) → length bytes ≡ MAX_TEXT + 1 → Consumes left bytes rest → (text : List ℕ) × IfSome left (λ t. t ≡ text) × Fault text 0 TextTooLong
too_long None rest bytes long p = (bytes, tt, long_refused bytes bytes [] long (sym (append-nil bytes)))
too_long (Some t) rest bytes long p = (t, refl, long_refused t bytes p.0 long p.2)

-- reading takes no more than the limit and a byte
pub pulled : (r : Result (List ℕ) ReadStop) (limit : ℕ) (old new : SourceSeen) → ReadGives r limit old new → ConsumesUpTo (limit + 1) old.left new.left
pulled (Ok bytes) limit old new g = (bytes, omega (arith, g.0), g.1)
pulled (Err TooLong) limit old new g = (g.0, omega (arith, g.1), g.2)
pulled (Err Failed) limit old new g = (g.0.0, omega (arith, g.0.1), g.0.2)
pulled (Err stop.NoMemory) limit old new g = g.0

-- no more is read than a command that reads a network text reads
pub within_network : (words : List (List ℕ)) (command : Command) (left rest : Option (List ℕ)) → ReadsNetwork command → IsCommand words command → ConsumesUpTo (MAX_TEXT + 1) left rest → IsReadWithin words left rest
within_network words (Report n) left rest reads said g = inl (Report n, said, g)
within_network words (Certify n) left rest reads said g = inl (Certify n, said, g)
within_network words Check left rest reads said g = absurd reads
within_network words (Sample k n) left rest reads said g = absurd reads
within_network words (Prove part n) left rest reads said g = inl (Prove part n, said, g)
within_network words (Verify part) left rest reads said g = absurd reads

-- ---- outputs

-- how far a command that reads a network text read, by the status
by_status : (command : Command) (status : Status) (left rest : Option (List ℕ)) → ReadsNetwork command → IsReadFor status left rest → IsReadBy command status left rest
by_status (Report n) status left rest reads r = r
by_status (Certify n) status left rest reads r = r
by_status Check status left rest reads r = absurd reads
by_status (Sample k n) status left rest reads r = absurd reads
by_status (Prove part n) status left rest reads r = r
by_status (Verify part) status left rest reads r = absurd reads

-- what it writes for a text that was read to its end was read for its status
pub read_for : (command : Command) (status : Status) (text out : List ℕ) (left rest : Option (List ℕ)) → ReadsNetwork command → IsOutput command status text out → IsReadOut left rest → IsReadBy command status left rest
read_for command status text out left rest reads g r = by_status command status left rest reads (elim (refused_or_says command status text out reads g) [
  | inl refused ↦ subst (λ (s : Status). IsReadFor s left rest) (sym refused.0) (inl r)
  | inr says ↦ elim (says_answered command status text out says) [
    | inl is ↦ subst (λ (s : Status). IsReadFor s left rest) (sym is) r
    | inr is ↦ subst (λ (s : Status). IsReadFor s left rest) (sym is) r
  ]
])

-- a refusal is what a command that reads a network text writes
pub refusal_is_output : (command : Command) (text out : List ℕ) → ReadsNetwork command → IsRefusalOf text out → IsOutput command Refused text out
refusal_is_output (Report n) text out reads r = r
refusal_is_output (Certify n) text out reads r = r
refusal_is_output Check text out reads r = absurd reads
refusal_is_output (Sample k n) text out reads r = absurd reads
refusal_is_output (Prove part n) text out reads r = r
refusal_is_output (Verify part) text out reads r = absurd reads

-- ---- runs

-- what every end of a command says of the source and of the text
pub record WasRead (command : Command) (status : Status) (words : List (List ℕ)) (text out : List ℕ) (old new : Devices) : Type 0 where
  pub said : IsCommand words command
  pub read : IsReadBy command status old.source.left new.source.left
  pub within : IsReadWithin words old.source.left new.source.left
  pub source : new.source.faults ≡ old.source.faults
  pub left : WasLeft old text
  pub says : IsOutput command status text out

-- an output that was written, or a prefix of it
pub output_ends : (command : Command) (whole status : Status) (words : List (List ℕ)) (text out : List ℕ) (old new : Devices)
    → WasRead command whole words text out old new → LineGives whole status out old.sink new.sink → RunGives status words old new
output_ends command whole status words text out old new r g = by status g
  where
    at : (status : Status) → status ≡ whole → WasRead command status words text out old new
    at status e = subst (λ (s : Status). WasRead command s words text out old new) (sym e) r

    by : (status : Status) → LineGives whole status out old.sink new.sink → RunGives status words old new
    by Done g = let s = at Done g.0 in record { command = command; said = s.said; read = s.read; within = s.within; source = s.source; text = text; left = s.left; out = out; says = s.says; sink = g.1 }
    by OpenLeft g = let s = at OpenLeft g.0 in record { command = command; said = s.said; read = s.read; within = s.within; source = s.source; text = text; left = s.left; out = out; says = s.says; sink = g.1 }
    by Refused g = let s = at Refused g.0 in record { command = command; said = s.said; read = s.read; within = s.within; source = s.source; text = text; left = s.left; out = out; says = s.says; sink = g.1 }
    by Rejected g = let s = at Rejected g.0 in record { command = command; said = s.said; read = s.read; within = s.within; source = s.source; text = text; left = s.left; out = out; says = s.says; sink = g.1 }
    by Usage g = absurd (output_is_written command Usage text out (at Usage g.0).says)
    by ReadFault g = absurd (output_is_written command ReadFault text out (at ReadFault g.0).says)
    by WriteFault g = record { within = r.within; source = r.source; text = text; left = r.left; out = out; allowed = inl (command, whole, r.said, r.read, r.says); sink = g }
    by NoMemory g = absurd (output_is_written command NoMemory text out (at NoMemory g.0).says)

-- memory ran out
pub memory_ends : (status : Status) (words : List (List ℕ)) (old new : Devices) → IsReadWithin words old.source.left new.source.left → new.source.faults ≡ old.source.faults
    → HasNoMemory status old.sink new.sink → RunGives status words old new
memory_ends status words old new within source g = subst (λ (s : Status). RunGives s words old new) (sym g.0) (record { within = within; source = source; sink = g.1 })

-- the output of a command for a network text that was read to its end
pub network_ends : (command : Command) (status : Status) (words : List (List ℕ)) (text : List ℕ) (old new : Devices) → ReadsNetwork command → IsCommand words command
    → IsReadOut old.source.left new.source.left → ConsumesUpTo (MAX_TEXT + 1) old.source.left new.source.left → new.source.faults ≡ old.source.faults → WasLeft old text
    → OutputGives command status text old.sink new.sink → RunGives status words old new
network_ends command status words text old new reads said read most source left (inl none) = memory_ends status words old new (within_network words command old.source.left new.source.left reads said most) source none
network_ends command status words text old new reads said read most source left (inr (whole, out, says, line)) = output_ends command whole status words text out old new (record {
  said = said;
  read = read_for command whole text out old.source.left new.source.left reads says read;
  within = within_network words command old.source.left new.source.left reads said most;
  source = source;
  left = left;
  says = says;
}) line

-- no network was read
pub stop_ends : (stop : Stop) (command : Command) (status : Status) (words : List (List ℕ)) (old new : Devices) → ReadsNetwork command → IsCommand words command
    → NetworkRead (Err stop) old.source new.source → StopGives stop status old.sink new.sink → RunGives status words old new
stop_ends (network.Fault code line) command status words old new reads said (text, read, up, fault) g = output_ends command Refused status words text (refused_line code line) old new (record {
  said = said;
  read = by_status command Refused old.source.left new.source.left reads up;
  within = within_network words command old.source.left new.source.left reads said read.within;
  source = read.faults;
  left = read.left;
  says = refusal_is_output command text (refused_line code line) reads (record { line = line; code = code; fault = fault; written = refl });
}) g
stop_ends network.Failed command status words old new reads said (most, rose, later) g = subst (λ (s : Status). RunGives s words old new) (sym g.0) (record {
  command = (command, said);
  within = within_network words command old.source.left new.source.left reads said most;
  source = rose;
  later = later;
  undecided = λ check. absurd (subst ReadsNetwork (one_command words command Check said check) reads);
  awaited = λ part verify. absurd (subst ReadsNetwork (one_command words command (Verify part) said verify) reads);
  sink = g.1;
})
stop_ends network.NoMemory command status words old new reads said (most, source) g = memory_ends status words old new (within_network words command old.source.left new.source.left reads said most) source g

-- the output of `sample`, which reads nothing
pub sample_ends : (number budget : ℕ) (status : Status) (words : List (List ℕ)) (old new : Devices) → IsCommand words (Sample number budget) → new.source ≡ old.source
    → ((text : List ℕ) → OutputGives (Sample number budget) status text old.sink new.sink) → RunGives status words old new
sample_ends number budget status words old new said same g = ends (g t.0)
  where
    t : (text : List ℕ) × IfSome old.source.left (λ l. l ≡ text)
    t = some_text old.source.left

    left : new.source.left ≡ old.source.left
    left = ap (λ (s : SourceSeen). s.left) same

    faults : new.source.faults ≡ old.source.faults
    faults = ap (λ (s : SourceSeen). s.faults) same

    ends : OutputGives (Sample number budget) status t.0 old.sink new.sink → RunGives status words old new
    ends (inl none) = memory_ends status words old new (inr left) faults none
    ends (inr (whole, out, says, line)) = output_ends (Sample number budget) whole status words t.0 out old new (record {
      said = said;
      read = left;
      within = inr left;
      source = faults;
      left = t.1;
      says = says;
    }) line

-- a network was read
pub read_ends : (net : Net) (command : Command) (status : Status) (words : List (List ℕ)) (old new : Devices) → ReadsNetwork command → IsCommand words command
    → NetworkRead (Ok net) old.source new.source → NetworkGives command status net old.sink new.sink → RunGives status words old new
read_ends net command status words old new reads said (text, read, out, spells) g = network_ends command status words text old new reads said out read.within read.faults read.left (g text spells)

-- the words are no command
pub usage_ends : (status : Status) (words : List (List ℕ)) (old new : Devices)
    → (SayACommand words → ⊥) → new.source ≡ old.source → LineGives Usage status usage_line old.sink new.sink → RunGives status words old new
usage_ends Done words old new none e g = absurd (let h = g.0 in cc)
usage_ends OpenLeft words old new none e g = absurd (let h = g.0 in cc)
usage_ends Refused words old new none e g = absurd (let h = g.0 in cc)
usage_ends Rejected words old new none e g = absurd (let h = g.0 in cc)
usage_ends Usage words old new none e g = record { command = none; source = e; sink = g.1 }
usage_ends ReadFault words old new none e g = absurd (let h = g.0 in cc)
usage_ends WriteFault words old new none e g =
    let t = some_text old.source.left in
    record {
      within = inr (ap (λ (s : SourceSeen). s.left) e);
      source = ap (λ (s : SourceSeen). s.faults) e;
      text = t.0;
      left = t.1;
      out = usage_line;
      allowed = inr (none, e, refl);
      sink = g;
    }
usage_ends NoMemory words old new none e g = absurd (let h = g.0 in cc)
