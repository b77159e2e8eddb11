-- How a place in a tree is written in a message.
pub use Rattle.otio_model.specs.PlaceTexts.{more_indexes, place_text}
