-- Demand 2: a bundle is a frame exactly when the SDN rules hold, and a frame written again gives its own bytes; the
-- board changes and replies exactly
-- as the message table says and does nothing for a frame not meant for it; the register files each reading under line
-- AND NodeID and touches no
-- other motor's record.
-- Assumes nothing.
use Rattle.promises.specs.Serials.{Serials}
pub mod Frames
pub mod LineReader
pub mod Events
pub mod Turns
pub mod Codes
pub mod Favourites
pub mod Fitting
pub mod Labels
pub mod Effects
pub mod Called
pub mod Answers
pub mod Example
pub mod Board
pub mod Positions
pub mod Register
pub mod StoredForm
pub mod EndToEnd
pub mod Transmitter

pub record Demand2 : Type 1 where
  pub frames : Frames.Frames
  pub line_reader : LineReader.LineReader
  pub serials : Serials
  pub labels : Labels.Labels
  pub board : Board.Board
  pub positions : Positions.Positions
  pub register : Register.Register
  pub stored_form : StoredForm.StoredForm
  pub end_to_end : EndToEnd.EndToEnd
  pub transmitter : Transmitter.Transmitter
