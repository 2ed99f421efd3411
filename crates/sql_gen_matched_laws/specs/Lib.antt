pub mod PassedSelect
