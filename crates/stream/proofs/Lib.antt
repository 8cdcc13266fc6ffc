-- what holds of every machine whose work falls: its calls step by step, that every document comes to a closing answer, and condition 3
pub mod Laws
