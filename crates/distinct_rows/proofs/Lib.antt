mod HeldRows
mod DifferentRows
