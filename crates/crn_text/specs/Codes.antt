-- The numbers and names under which refusals of a text are reported.
-- The numbers and names are this project's own.
use Rattle.std.specs.Prelude.{ℕ, List, codes}
use Rattle.crn_net.specs.declared.fault.NetFault.{NetFault}
use Rattle.crn_net.specs.declared.fault.NetFault.TheVariants as net
use Rattle.crn_text.specs.declared.fault.TextCode.{TextCode}
use Rattle.crn_text.specs.declared.fault.TextCode.TheVariants.{SelfReaction, TooManySpecies, TooManyComplexes, TooManyReactions, NoReaction, NoMemory, NotAscii, NoArrow, EmptySide, BadName, NameTooLong, ZeroCoefficient, CoefficientTooLarge, StrayMark, TextTooLong}

-- the number of a refusal
abbrev pub code_number : TextCode → ℕ
code_number SelfReaction = 1
code_number TooManySpecies = 2
code_number TooManyComplexes = 3
code_number TooManyReactions = 4
code_number NoReaction = 5
code_number NoMemory = 9
code_number NotAscii = 11
code_number NoArrow = 12
code_number EmptySide = 13
code_number BadName = 14
code_number NameTooLong = 15
code_number ZeroCoefficient = 16
code_number CoefficientTooLarge = 17
code_number StrayMark = 18
code_number TextTooLong = 19

-- the name of a refusal
abbrev pub code_name : TextCode → List ℕ
code_name SelfReaction = codes "SelfReaction"
code_name TooManySpecies = codes "TooManySpecies"
code_name TooManyComplexes = codes "TooManyComplexes"
code_name TooManyReactions = codes "TooManyReactions"
code_name NoReaction = codes "NoReaction"
code_name NoMemory = codes "NoMemory"
code_name NotAscii = codes "NotAscii"
code_name NoArrow = codes "NoArrow"
code_name EmptySide = codes "EmptySide"
code_name BadName = codes "BadName"
code_name NameTooLong = codes "NameTooLong"
code_name ZeroCoefficient = codes "ZeroCoefficient"
code_name CoefficientTooLarge = codes "CoefficientTooLarge"
code_name StrayMark = codes "StrayMark"
code_name TextTooLong = codes "TextTooLong"

-- the code of a refusal by the network's builder
abbrev pub net_code : NetFault → TextCode
net_code net.SelfReaction = SelfReaction
net_code net.TooManySpecies = TooManySpecies
net_code net.TooManyComplexes = TooManyComplexes
net_code net.TooManyReactions = TooManyReactions
net_code net.NoReaction = NoReaction
net_code net.NoMemory = NoMemory
