use Rattle.table_laws.proofs.ListedCodes.{over_codes, skeleton_codes, codes_skeleton}
use Rattle.table_laws.proofs.Nexts.{codes_once}
use Rattle.table_laws.proofs.Rooms.{listed_length}
use Rattle.table_laws.proofs.codes_and_skeletons.Goals as goal

pub returns-clause-exist : goal.returns-clause-exist
returns-clause-exist c = over_codes

pub returns-clause-once : goal.returns-clause-once
returns-clause-once c = codes_once

pub returns-clause-codes : goal.returns-clause-codes
returns-clause-codes c = skeleton_codes

pub returns-clause-skeleton : goal.returns-clause-skeleton
returns-clause-skeleton c = λ g u are. codes_skeleton g u are.unbroken are.ascend are.simple are.alphabet

pub returns-clause-room : goal.returns-clause-room
returns-clause-room c = λ g u are. listed_length g u are.unbroken are.ascend are.simple are.alphabet
