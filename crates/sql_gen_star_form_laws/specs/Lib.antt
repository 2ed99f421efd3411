pub mod StarForms
