-- What stays in front of a text that is written on.
pub use Rattle.rdf_spelling.specs.Fronts.{KeepsFront, kept_append, kept_on, kept_same}
