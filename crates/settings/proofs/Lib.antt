-- Laws of the test of settings.
mod Refusing
