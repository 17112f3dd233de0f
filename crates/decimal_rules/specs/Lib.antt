-- An integer's decimal text: the definition.
pub mod Integer
