-- LAWS: nothing to believe, as those of specs/Laws.
pub mod Laws
