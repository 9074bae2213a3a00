-- What the types of src/ stand for.
use Rattle.std.specs.Prelude.{Bool, true, false}
use Rattle.rng_model.specs.Events as model
use Rattle.rng_model.specs.Codes as codes
use Rattle.skeleton.specs.declared.code.Code.{Code}
use Rattle.skeleton.specs.declared.code.Code.TheVariants as code
use Rattle.skeleton.specs.declared.event.Event.{Event}
use Rattle.skeleton.specs.declared.event.Event.TheVariants.{Opening, Attr, Body, Chars, Closing}

abbrev pub event_of : Event → model.Event
event_of (Opening n) = model.Opening n
event_of (Attr n t) = model.Attr n t
event_of Body = model.Body
event_of (Chars t) = model.Chars t
event_of Closing = model.Closing

-- an element, an attribute or a text
abbrev pub is_node : model.Event → Bool
is_node (model.Opening n) = true
is_node (model.Attr n t) = true
is_node model.Body = false
is_node (model.Chars t) = true
is_node model.Closing = false

abbrev pub code_of : Code → codes.Code
code_of (code.Opening i) = codes.Opening i
code_of (code.Attr j s) = codes.Attr j s
code_of code.Body = codes.Body
code_of (code.Chars s) = codes.Chars s
code_of code.Closing = codes.Closing
