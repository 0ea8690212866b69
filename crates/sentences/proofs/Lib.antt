-- Laws of the forms.
pub mod Laws
pub mod Forms
pub mod Ends
