use Rattle.simple_form_laws.specs.Faults as simple
use Rattle.list_command.proofs.Refusing.{refuses_form}
use Rattle.list_command.proofs.schema_faults.no_form.Goals as goal

pub returns-in-UnboundPrefix : goal.returns-in-UnboundPrefix
returns-in-UnboundPrefix c = λ bytes full taken refusal. refuses_form (simple.UnboundPrefix c.in-UnboundPrefix.at) bytes full taken (rw c.in-UnboundPrefix.is at refusal)

pub returns-in-PrefixTwice : goal.returns-in-PrefixTwice
returns-in-PrefixTwice c = λ bytes full taken refusal. refuses_form (simple.PrefixTwice c.in-PrefixTwice.at) bytes full taken (rw c.in-PrefixTwice.is at refusal)

pub returns-in-ReservedPrefix : goal.returns-in-ReservedPrefix
returns-in-ReservedPrefix c = λ bytes full taken refusal. refuses_form (simple.ReservedPrefix c.in-ReservedPrefix.at) bytes full taken (rw c.in-ReservedPrefix.is at refusal)

pub returns-in-ClassConstraint : goal.returns-in-ClassConstraint
returns-in-ClassConstraint c = λ bytes full taken refusal. refuses_form (simple.ClassConstraint c.in-ClassConstraint.at) bytes full taken (rw c.in-ClassConstraint.is at refusal)

pub returns-in-XmlnsAttribute : goal.returns-in-XmlnsAttribute
returns-in-XmlnsAttribute c = λ bytes full taken refusal. refuses_form (simple.XmlnsAttribute c.in-XmlnsAttribute.at) bytes full taken (rw c.in-XmlnsAttribute.is at refusal)

pub returns-in-NoStart : goal.returns-in-NoStart
returns-in-NoStart c = λ bytes full taken refusal. refuses_form simple.NoStart bytes full taken (rw c.in-NoStart.is at refusal)

pub returns-in-UndefinedName : goal.returns-in-UndefinedName
returns-in-UndefinedName c = λ bytes full taken refusal. refuses_form (simple.UndefinedName c.in-UndefinedName.at) bytes full taken (rw c.in-UndefinedName.is at refusal)

pub returns-in-ParentOutside : goal.returns-in-ParentOutside
returns-in-ParentOutside c = λ bytes full taken refusal. refuses_form (simple.ParentOutside c.in-ParentOutside.at) bytes full taken (rw c.in-ParentOutside.is at refusal)

pub returns-in-CombineMixed : goal.returns-in-CombineMixed
returns-in-CombineMixed c = λ bytes full taken refusal. refuses_form (simple.CombineMixed c.in-CombineMixed.at) bytes full taken (rw c.in-CombineMixed.is at refusal)

pub returns-in-DefinedTwice : goal.returns-in-DefinedTwice
returns-in-DefinedTwice c = λ bytes full taken refusal. refuses_form (simple.DefinedTwice c.in-DefinedTwice.at) bytes full taken (rw c.in-DefinedTwice.is at refusal)

pub returns-in-Loop : goal.returns-in-Loop
returns-in-Loop c = λ bytes full taken refusal. refuses_form (simple.Loop c.in-Loop.at) bytes full taken (rw c.in-Loop.is at refusal)

pub returns-in-ExpandedTooDeep : goal.returns-in-ExpandedTooDeep
returns-in-ExpandedTooDeep c = λ bytes full taken refusal. refuses_form simple.ExpandedTooDeep bytes full taken (rw c.in-ExpandedTooDeep.is at refusal)

pub returns-in-BadValue : goal.returns-in-BadValue
returns-in-BadValue c = λ bytes full taken refusal. refuses_form (simple.BadValue c.in-BadValue.at) bytes full taken (rw c.in-BadValue.is at refusal)
