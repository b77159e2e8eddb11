pub mod FilmFrames
