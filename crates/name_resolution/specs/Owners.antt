-- Whose name class it is.
use Rattle.simple_form_laws.specs.ClassForms.{Use, OfElement, OfAttribute}
use Rattle.name_resolution.specs.declared.classes.Owner.{Owner}
use Rattle.name_resolution.specs.declared.classes.Owner.TheVariants as rust

abbrev pub use_of : Owner → Use
use_of rust.Element = OfElement
use_of rust.Attribute = OfAttribute
